-- Bits from the low end: how large a bit, some bits, and a count of bits can be.
-- Assumes nothing.
use mathlib.Core.List.{List}
use Prim.Native.Nat.{ℕ, zero, suc, ◌^◌, ◌≤◌, ◌<◌}
use native.Mathlib.Nat.{pow-suc}
use native.Mathlib.Omega.{arith}
use Rattle.common.specs.Bytes.{low_bit, low_bits, low_count}

pub bit-small : (s : List ℕ) (at i : ℕ) → low_bit s at i < 2
unfolding low_bit
bit-small s at i = omega arith

pub bits_small : (s : List ℕ) (at i w : ℕ) → low_bits s at i w < 2 ^ w
unfolding low_bits
bits_small s at i zero = omega arith
bits_small s at i (suc w) = omega (arith, bits_small s at (suc i) w, bit-small s at i, pow-suc 2 w)

pub count-le : (s : List ℕ) (at n : ℕ) → low_count s at n ≤ n
unfolding low_count
count-le s at zero = omega arith
count-le s at (suc n) = omega (arith, count-le s at n, bit-small s at n)
