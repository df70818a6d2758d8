-- The loop keeps the count of the bits passed, at most one for each. Assumes nothing.
use Rattle.common.specs.Bytes.{low_count}
use mathlib.Core.Path.{◌≡◌}
use Prim.Native.Nat.{◌-◌, ◌≤◌}
use Rattle.bucket_piece.proofs.bits.count_each.Given as goal

abbrev pub invariant-loop-i : goal.invariant-loop-i
invariant-loop-i l = (l.i ≤ l.n) × (l.c ≡ low_count l.s l.at l.i) × (l.c ≤ l.i)

abbrev pub decreases-loop-i : goal.decreases-loop-i
decreases-loop-i l = l.n - l.i
