-- After t bytes f counts those that do not rise, at most t.
-- Assumes nothing.
use mathlib.Core.Path.{◌≡◌}
use Prim.Native.Nat.{◌-◌, ◌≤◌}
use Rattle.bitmap_spec.proofs.Tally.{tally}
use Rattle.judge.specs.Post.{fall}
use Rattle.judge.proofs.falls.Given as goal

abbrev pub invariant-loop-t : goal.invariant-loop-t
invariant-loop-t l = (l.t ≤ l.n) × (l.f ≡ tally (fall l.s) l.i l.t) × (l.f ≤ l.t)

abbrev pub decreases-loop-t : goal.decreases-loop-t
decreases-loop-t l = l.n - l.t
