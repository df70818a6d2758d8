-- Three stores one after the other are the three numbers behind what is there. Assumes nothing.
use lib.ListN.{set, length-set}
use Rattle.value_list.proofs.Runs.{put-more}
use Prim.Native.Nat.{◌+◌}
use native.Mathlib.Omega.{arith}
use borrow.Author.Rules.{rules}
use Rattle.value_list.proofs.put_cell.Goals as goal

pub bounds-list-k-2 : goal.bounds-list-k-2
bounds-list-k-2 c = omega (arith, length-set c.args.list.now c.args.k c.args.c.kind)

pub bounds-list-k-3 : goal.bounds-list-k-3
bounds-list-k-3 c =
    omega (
      arith,
      length-set c.args.list.now c.args.k c.args.c.kind,
      length-set (set c.args.list.now c.args.k c.args.c.kind) (c.args.k + 1) c.args.c.value,
    )

pub returns : goal.returns
returns c = put-more c.args.k c.args.c c.args.list.now (search rules)
