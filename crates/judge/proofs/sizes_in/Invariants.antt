-- After k descriptors t is the sum of their sizes, each at most 32.
-- Assumes nothing.
use mathlib.Core.Path.{◌≡◌}
use Prim.Native.Nat.{◌-◌, ◌*◌, ◌≤◌}
use Rattle.bitmap_spec.proofs.Tally.{tally}
use Rattle.judge.specs.Post.{size_at}
use Rattle.judge.proofs.sizes_in.Given as goal

abbrev pub invariant-loop-k : goal.invariant-loop-k
invariant-loop-k l = (l.k ≤ l.n) × (l.t ≡ tally (size_at l.d) l.i l.k) × (l.t ≤ l.k * 32)

abbrev pub decreases-loop-k : goal.decreases-loop-k
decreases-loop-k l = l.n - l.k
