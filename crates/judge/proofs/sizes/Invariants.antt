-- After b blocks t is the sum of b * 256 sizes, each at most 32.
-- Assumes nothing.
use mathlib.Core.Path.{◌≡◌}
use Prim.Native.Nat.{◌-◌, ◌*◌, ◌≤◌}
use Rattle.bitmap_spec.proofs.Tally.{tally}
use Rattle.judge.specs.Post.{size_at}
use Rattle.judge.proofs.sizes.Given as goal

abbrev pub invariant-loop-b : goal.invariant-loop-b
invariant-loop-b l = (l.b ≤ l.blocks) × (l.t ≡ tally (size_at l.d) 0 (l.b * 256)) × (l.t ≤ l.b * 8192)

abbrev pub decreases-loop-b : goal.decreases-loop-b
decreases-loop-b l = l.blocks - l.b
