-- After g groups g * 8 values stand.
-- Assumes nothing.
use mathlib.Core.Path.{◌≡◌}
use Prim.Native.Nat.{◌-◌, ◌*◌, ◌≤◌}
use lib.ListN.{length}
use Rattle.chunk_read.specs.Post.{Wrote, primary_of}
use Rattle.chunk_read.proofs.groups.Given as goal

abbrev pub invariant-loop-g : goal.invariant-loop-g
invariant-loop-g l =
    (l.g ≤ l.whole) × (length l.out ≡ length l.initial.out) × Wrote (primary_of l.s l.at l.w l.m) 0 (l.g * 8) l.k l.initial.out l.out l.any

abbrev pub decreases-loop-g : goal.decreases-loop-g
decreases-loop-g l = l.whole - l.g
