-- The invariant (Shows): the bits set are the positions passed.
-- Assumes nothing.
use lib.ListN.{take}
use Rattle.common.specs.Lists.{mem}
use Rattle.blocks.proofs.Blocks.{Shows}
use Rattle.bitmap_write.specs.Run.{run}
use mathlib.Core.Path.{◌≡◌}
use Prim.Native.Nat.{◌-◌, ◌≤◌}
use Rattle.bitmap_write.proofs.run_block.Given as goal

abbrev pub invariant-loop-t : goal.invariant-loop-t
invariant-loop-t l = (l.n ≡ l.j - l.i) × (l.t ≤ l.n) × Shows l.b (λ p. mem p (take l.t (run l.ps l.i l.j)))
