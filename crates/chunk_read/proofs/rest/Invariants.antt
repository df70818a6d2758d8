-- After each turn the values from the first on stand, up to i.
-- Assumes nothing.
use mathlib.Core.Path.{◌≡◌}
use Prim.Native.Nat.{◌-◌, ◌≤◌}
use lib.ListN.{length}
use Rattle.chunk_read.specs.Post.{Wrote, primary_of}
use Rattle.chunk_read.proofs.rest.Given as goal

abbrev pub invariant-loop-i : goal.invariant-loop-i
invariant-loop-i l =
    (l.first ≤ l.i) × (l.i ≤ l.n) × (length l.out ≡ length l.initial.out) × Wrote (primary_of l.s l.at l.w l.m) l.first l.i l.k l.initial.out l.out l.any

abbrev pub decreases-loop-i : goal.decreases-loop-i
decreases-loop-i l = l.n - l.i
