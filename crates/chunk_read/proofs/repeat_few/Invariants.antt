-- After i turns i values stand, so the one before the next is a value too.
-- Assumes nothing.
use mathlib.Core.Path.{◌≡◌}
use Prim.Native.Nat.{ℕ, ◌-◌, ◌≤◌}
use mathlib.Core.List.{List}
use lib.ListN.{length}
use Rattle.chunk_read.specs.Post.{Wrote}
use Rattle.chunk_read.proofs.repeat_few.Given as goal

abbrev pub invariant-loop-i : goal.invariant-loop-i
invariant-loop-i l =
    (1 ≤ l.i) × (l.i ≤ l.n) × (length l.out ≡ length l.initial.out)
    × ((before : List ℕ) → Wrote (λ j. l.m) 0 1 l.k before l.initial.out l.m → Wrote (λ j. l.m) 0 l.i l.k before l.out l.any)

abbrev pub decreases-loop-i : goal.decreases-loop-i
decreases-loop-i l = l.n - l.i
