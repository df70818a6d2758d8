-- The loop keeps the count of the words passed. Assumes nothing.
use Rattle.common.specs.Bytes.{low_count}
use mathlib.Core.Path.{◌≡◌}
use Prim.Native.Nat.{◌-◌, ◌*◌, ◌≤◌}
use Rattle.bucket_piece.proofs.bits.count_words.Given as goal

abbrev pub invariant-loop-q : goal.invariant-loop-q
invariant-loop-q l = (l.q ≤ l.words) × (l.c ≡ low_count l.s l.at (l.q * 64)) × (l.c ≤ l.q * 64)

abbrev pub decreases-loop-q : goal.decreases-loop-q
decreases-loop-q l = l.words - l.q
