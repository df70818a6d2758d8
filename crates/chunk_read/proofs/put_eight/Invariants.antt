-- After t turns the first t values stand, and any is the or of them.
-- Assumes nothing.
use mathlib.Core.Path.{◌≡◌}
use Prim.Native.Nat.{◌+◌, ◌-◌, ◌*◌, ◌/◌, ◌%◌, ◌^◌, ◌≤◌}
use lib.ListN.{length}
use Rattle.chunk_read.specs.Post.{Wrote}
use Rattle.chunk_read.proofs.put_eight.Given as goal

abbrev pub invariant-loop-t : goal.invariant-loop-t
invariant-loop-t l =
    (l.t ≤ 8) × (length l.out ≡ length l.initial.out) × Wrote (λ t. l.m + l.x / 2 ^ (l.w * (7 - t)) % 2 ^ l.w) 0 l.t l.to l.initial.out l.out l.any

abbrev pub decreases-loop-t : goal.decreases-loop-t
decreases-loop-t l = 8 - l.t
