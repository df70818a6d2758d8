-- Bits from the low end: none is set past the bytes.
-- Assumes nothing.
use mathlib.Core.Path.{◌≡◌}
use mathlib.Core.List.{List}
use Prim.Native.Nat.{ℕ, ◌+◌, ◌/◌, ◌%◌, ◌^◌, ◌≤◌}
use native.Mathlib.Nat.{zero-div}
use lib.ListN.{length, get_or-eq_default}
use Rattle.common.specs.Bytes.{low_bit}

pub bit_past : (s : List ℕ) (at i : ℕ) → length s ≤ at + i / 8 → low_bit s at i ≡ 0
unfolding low_bit
bit_past s at i h = rw (get_or-eq_default s 0 h, zero-div (2 ^ (i % 8)))
