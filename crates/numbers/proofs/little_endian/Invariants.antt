-- The loop goes down from the last byte and keeps v as the little endian number of the bytes behind j: no sum wraps.
-- Assumes nothing.
use mathlib.Core.Path.{◌≡◌}
use Prim.Native.Nat.{◌+◌, ◌-◌, ◌^◌, ◌≤◌, ◌<◌}
use Rattle.common.specs.Bytes.{little_at}
use Rattle.numbers.proofs.little_endian.Given as goal

abbrev pub invariant-loop-j : goal.invariant-loop-j
invariant-loop-j l = (l.j ≤ l.w) × (l.v ≡ little_at l.s (l.at + l.j) (l.w - l.j)) × (l.v < 256 ^ (l.w - l.j))

abbrev pub decreases-loop-j : goal.decreases-loop-j
decreases-loop-j l = l.j
