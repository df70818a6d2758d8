-- The invariant (Shows): the bits set are the members passed.
-- Assumes nothing.
use Prim.Native.Nat.{◌≤◌}
use lib.ListN.{take, drop}
use Rattle.common.specs.Lists.{mem}
use Rattle.blocks.proofs.Blocks.{Shows}
use Rattle.blocks.proofs.load_sparse.Given as goal

abbrev pub invariant-loop-i : goal.invariant-loop-i
invariant-loop-i l = (l.i ≤ l.n) × Shows l.b (λ p. mem p (take l.i (drop l.at l.s)))
