-- Numbers of several bytes, lowest first: eight bytes as one sum, and the ones of such a number byte by byte.
-- Assumes nothing.
use mathlib.Core.Path.{◌≡◌, sym, ◌∙◌}
use mathlib.Core.List.{List}
use Prim.Native.Nat.{ℕ, zero, suc, ◌+◌, ◌*◌, ◌^◌, ◌<◌}
use native.Mathlib.Nat.{add_comm}
use native.Mathlib.Omega.{arith}
use lib.ListN.{get_or}
use lib.Count.{ones, ones_cat}
use Rattle.common.specs.Bytes.{little_at}

-- the sum that the code has is the number of the eight bytes
pub little-eight : (s : List ℕ) (at : ℕ) → little_at s at 8
    ≡ get_or s at 0 + get_or s (at + 1) 0 * 256 + get_or s (at + 2) 0 * 65536 + get_or s (at + 3) 0 * 16777216
    + get_or s (at + 4) 0 * 4294967296 + get_or s (at + 5) 0 * 1099511627776
    + get_or s (at + 6) 0 * 281474976710656 + get_or s (at + 7) 0 * 72057594037927936
unfolding little_at
little-eight s at =
    let a2 : at + 1 + 1 ≡ at + 2 = omega arith in
    let a3 : at + 2 + 1 ≡ at + 3 = omega arith in
    let a4 : at + 3 + 1 ≡ at + 4 = omega arith in
    let a5 : at + 4 + 1 ≡ at + 5 = omega arith in
    let a6 : at + 5 + 1 ≡ at + 6 = omega arith in
    let a7 : at + 6 + 1 ≡ at + 7 = omega arith in
    rw (a2, a3, a4, a5, a6, a7) (omega arith)

-- the ones of a number are those of its lowest byte and of the bytes above it
pub ones_low : (b x : ℕ) → b < 256 → ones (b + 256 * x) ≡ ones b + ones x
ones_low b x small =
    let swap : b + 256 * x ≡ x * 2 ^ 8 + b = omega arith in
    rw swap (ones_cat 8 x b small ∙ add_comm (ones x) (ones b))

-- Which end bits are counted from is each format's own: every count that adds up byte by byte is the number of ones.
-- count at n is the count of the n bytes from at on.
module _ (s : List ℕ) (small : (k : ℕ) → get_or s k 0 < 256) (count : ℕ → ℕ → ℕ)
    (none : (at : ℕ) → count at 0 ≡ 0)
    (more : (at n : ℕ) → count at (suc n) ≡ ones (get_or s at 0) + count (at + 1) n) where
  pub ones-bytes : (at n : ℕ) → ones (little_at s at n) ≡ count at n
  unfolding little_at ones
  ones-bytes at zero = sym (none at)
  ones-bytes at (suc n) =
      let parts = ones_low (get_or s at 0) (little_at s (at + 1) n) (small at) in
      omega (arith, parts, ones-bytes (at + 1) n, more at n)
