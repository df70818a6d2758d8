-- The invariant: the positions passed are written, each less its container.
-- Assumes nothing.
use lib.ListN.{take}
use Rattle.bitmap_spec.specs.Output.{written}
use Rattle.bitmap_write.specs.Run.{run}
use mathlib.Core.Path.{◌≡◌}
use Prim.Native.Nat.{◌-◌, ◌≤◌}
use lib.ListN.{length}
use Rattle.bitmap_write.proofs.put_low.Given as goal

abbrev pub invariant-loop-t : goal.invariant-loop-t
invariant-loop-t l = (l.n ≡ l.j - l.i) × (l.t ≤ l.n) × (length l.out ≡ length l.initial.out)
    × (l.out ≡ written l.initial.out l.at (take l.t (run l.ps l.i l.j)))
