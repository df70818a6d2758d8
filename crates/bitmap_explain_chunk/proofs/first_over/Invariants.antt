-- Rest invariant: the first over 63 of those left is the first of all; j is the first exception that is left.
-- Assumes nothing.
use mathlib.Core.Path.{◌≡◌}
use Prim.Native.Nat.{◌-◌, ◌≤◌}
use Rattle.bitmap_spec.specs.Judge.{descriptor}
use Rattle.bitmap_explain_spec.specs.Explain.{first_over}
use Rattle.bitmap_explain_chunk.specs.Post.{Reached}
use Rattle.bitmap_explain_chunk.proofs.first_over.Given as goal

abbrev pub invariant-loop-i : goal.invariant-loop-i
invariant-loop-i l =
    (l.i ≤ l.n) × (first_over (descriptor l.s l.h) l.i (l.n - l.i) ≡ first_over (descriptor l.s l.h) 0 l.n) × Reached l.s l.h l.i l.j

abbrev pub decreases-loop-i : goal.decreases-loop-i
decreases-loop-i l = l.n - l.i
