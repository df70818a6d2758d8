-- What is counted and what is left are the whole, and an empty container counts once in both sums.
-- Assumes nothing.
use mathlib.Core.Path.{◌≡◌}
use Prim.Native.Nat.{◌+◌, ◌-◌, ◌≤◌}
use lib.ListN.{length, take, drop}
use Rattle.common.specs.Lists.{sum}
use Rattle.bitmap_spec.specs.Judge.{size_of}
use Rattle.judge.specs.Post.{edge_falls}
use Rattle.judge.proofs.edges.Given as goal

abbrev pub invariant-loop-i : goal.invariant-loop-i
invariant-loop-i l =
    (l.i ≤ l.n) × (1 ≤ l.at) × (l.at + sum size_of (drop l.i (take l.n l.d)) ≡ length l.s) × (l.f ≤ l.i) × (l.empty ≤ l.i) ×
    (l.f + edge_falls l.s l.at (drop l.i (take l.n l.d)) ≡ l.empty + edge_falls l.s l.from (take l.n l.d))

abbrev pub decreases-loop-i : goal.decreases-loop-i
decreases-loop-i l = l.n - l.i
