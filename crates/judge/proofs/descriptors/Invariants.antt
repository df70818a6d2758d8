-- Rest invariant: the chunks that are left, behind the descriptors read, say what all chunks say.
-- Assumes nothing.
use mathlib.Core.List.{[]}
use mathlib.Core.Path.{◌≡◌}
use Prim.Native.Nat.{◌-◌, ◌*◌, ◌≤◌}
use lib.ListN.{length, take}
use Rattle.bitmap_spec.specs.Judge.{chunks}
use Rattle.judge.proofs.descriptors.Given as goal

abbrev pub invariant-loop-i : goal.invariant-loop-i
invariant-loop-i l =
    (l.i ≤ l.whole) × (l.at ≤ length l.s) × (length l.out ≡ length l.initial.out) ×
    (chunks l.s l.at (take (l.i * 256) l.out) (l.whole - l.i) l.rest ≡ chunks l.s 6 [] l.whole l.rest)

abbrev pub decreases-loop-i : goal.decreases-loop-i
decreases-loop-i l = l.whole - l.i
