-- After j slots `best` is the best of them; after all it is the one looked for.
-- Assumes nothing.
use Rattle.store_laws.proofs.Packing.{best-start}
use mathlib.Core.Path.{◌≡◌}
use Prim.Native.Nat.{◌-◌}
use native.Mathlib.Omega.{arith}
use Rattle.store_pack.proofs.next_slot.Goals as goal

pub loop-j-init : goal.loop-j-init
loop-j-init c = (omega arith, best-start _ _ _)

pub better-best-requires : goal.better-best-requires
better-best-requires c =
    (c.requires.0, c.loop-j-test.true, c.requires.1, c.loop-j.invariant.1)

pub loop-j-preserved : goal.loop-j-preserved
loop-j-preserved c = (omega arith, c.better-best.ensures)

pub returns : goal.returns
returns c =
    let e : c.loop-j.j ≡ c.args.n = omega arith in
    rw e at c.loop-j.invariant.1
