-- With its null bits there, a row is a run behind them; without them it is none. Assumes nothing.
use Prim.Native.Nat.{◌/◌}
use borrow.Author.Tests.{leb-true}
use Rattle.common.specs.Bytes.{ceil8}
use Rattle.row_list.proofs.Rows.{row-absent, row_listed}
use mathlib.Core.Path.{sym, ◌∙◌}
use Prim.Native.Nat.{◌+◌}
use native.Mathlib.Omega.{arith}
use lib.ListN.{length}
use Rattle.row_list.proofs.list_row.Goals as goal

pub returns-then-not-has : goal.returns-then-not-has
unfolding ceil8
returns-then-not-has c =
    row-absent c.args.s.now c.args.storages c.args.n c.args.at c.requires.1 c.args.k _ c.args.at
    (sym c.has.ensures ∙ c.if-not-has.true)

pub overflow_add-at : goal.overflow_add-at
overflow_add-at c =
    omega (
      arith,
      leb-true (c.args.at + (c.args.n + 7) / 8) (length c.args.s.now)
          (sym c.has.ensures ∙ c.if-not-has.false),
    )

pub returns : goal.returns
unfolding ceil8
returns c =
    row_listed c.args.s.now c.args.storages c.args.n c.args.at c.requires.1 c.args.k _ _ _
    c.list_run.ensures
