-- Numbers of several bytes, and bits counted from the low end of each byte. Every definition is for any width.
use Rattle.std.specs.Prelude.{ℕ, zero, suc, ◌+◌, ◌-◌, ◌*◌, ◌/◌, ◌%◌, ◌^◌, Bool, List, get_or, ltb, eqb, ℤ, pos, negsuc}
use Rattle.common.specs.Outcome.{pick, either}

-- n divided by 8, rounded up: the bytes that n bits take
unfoldable pub ceil8 : ℕ → ℕ
ceil8 n = (n + 7) / 8

-- the number of the w bytes of s from at on, lowest byte first
unfoldable pub little_at : List ℕ → ℕ → ℕ → ℕ
little_at s at zero = 0
little_at s at (suc w) = get_or s at 0 + 256 * little_at s (at + 1) w

-- the same, highest byte first
unfoldable pub big_at : List ℕ → ℕ → ℕ → ℕ
big_at s at zero = 0
big_at s at (suc w) = big_at s at w * 256 + get_or s (at + w) 0

-- two's complement: n below half is itself; from half on it is n - 2 * half
unfoldable pub signed_of : ℕ → ℕ → ℤ
signed_of half n = pick (ltb n half) (pos n) (negsuc (2 * half - 1 - n))

-- bit i from byte at on, counted from the low end of each byte
unfoldable pub low_bit : List ℕ → ℕ → ℕ → ℕ
low_bit s at i = get_or s (at + i / 8) 0 / 2 ^ (i % 8) % 2

-- the w bits from bit i on, low bits first
unfoldable pub low_bits : List ℕ → ℕ → ℕ → ℕ → ℕ
low_bits s at i zero = 0
low_bits s at i (suc w) = low_bit s at i + 2 * low_bits s at (suc i) w

-- how many of the first n bits are set
unfoldable pub low_count : List ℕ → ℕ → ℕ → ℕ
low_count s at zero = 0
low_count s at (suc n) = low_count s at n + low_bit s at n

-- the bits that fill n bits up to a byte are 0
unfoldable pub low_spare_zero : List ℕ → ℕ → ℕ → Bool
low_spare_zero s at n = either (eqb (n % 8) 0) (eqb (get_or s (at + n / 8) 0 / 2 ^ (n % 8)) 0)
