-- The loop goes down from the last bit and keeps v as the bits behind j. Assumes nothing.
use Prim.Native.Nat.{◌^◌, ◌+◌, ◌-◌, ◌≤◌, ◌<◌}
use mathlib.Core.Path.{◌≡◌}
use Rattle.common.specs.Bytes.{low_bits}
use Rattle.bucket_piece.proofs.bits.bits_at.Given as goal

abbrev pub invariant-loop-j : goal.invariant-loop-j
invariant-loop-j l = (l.j ≤ l.w) × (l.v ≡ low_bits l.s l.at (l.i + l.j) (l.w - l.j)) × (l.v < 2 ^ (l.w - l.j))

abbrev pub decreases-loop-j : goal.decreases-loop-j
decreases-loop-j l = l.j
