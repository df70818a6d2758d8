-- The loop keeps v as the big endian number of the bytes read so far, below 256 to their number: no sum wraps. Assumes
-- nothing.
use mathlib.Core.Path.{◌≡◌}
use Prim.Native.Nat.{◌-◌, ◌^◌, ◌≤◌, ◌<◌}
use Rattle.common.specs.Bytes.{big_at}
use Rattle.numbers.proofs.big_endian.Given as goal

abbrev pub invariant-loop-j : goal.invariant-loop-j
invariant-loop-j l = (l.j ≤ l.w) × (l.v ≡ big_at l.s l.at l.j) × (l.v < 256 ^ l.j)

abbrev pub decreases-loop-j : goal.decreases-loop-j
decreases-loop-j l = l.w - l.j
