-- Bits of bytes, from the highest bit of the first byte on, and values packed into bits, for any width.
use Rattle.std.specs.Prelude.{ℕ, zero, suc, ◌+◌, ◌-◌, ◌*◌, ◌/◌, ◌%◌, ◌^◌, Bool, List, get_or, ltb, eqb}
use Rattle.common.specs.Outcome.{pick}
use Rattle.common.specs.Lists.{table}
use Rattle.common.specs.Bytes.{ceil8}

-- bit p of s: "bit 0 is the highest bit of the first byte"
unfoldable pub bit : List ℕ → ℕ → ℕ
bit s p = get_or s (p / 8) 0 / 2 ^ (7 - p % 8) % 2

-- the number of the w bits from bit p on, the first the highest
unfoldable pub bits : List ℕ → ℕ → ℕ → ℕ
bits s p zero = 0
bits s p (suc w) = bits s p w * 2 + bit s (p + w)

-- value i of those packed from byte at on, w bits each, "first value in the highest bits"
unfoldable pub value : List ℕ → ℕ → ℕ → ℕ → ℕ
value s at w i = bits s (at * 8 + i * w) w

-- "spare bits are 0": those that fill n values of w bits up to a byte
unfoldable pub spare_zero : List ℕ → ℕ → ℕ → ℕ → Bool
spare_zero s at w n = eqb (bits s (at * 8 + n * w) (ceil8 (n * w) * 8 - n * w)) 0

-- ---- the other way round

-- the number whose w bits, the first the highest, are f at p, p + 1, ..
unfoldable pub packed : (ℕ → ℕ) → ℕ → ℕ → ℕ
packed f p zero = 0
packed f p (suc w) = packed f p w * 2 + f (p + w)

-- n bytes whose bits are f at 0, 1, ..
unfoldable pub bytes_of : (ℕ → ℕ) → ℕ → List ℕ
bytes_of f n = table (λ i. packed f (i * 8) 8) 0 n

-- bit p of the values f 0, .., f (n - 1), w bits each; 0 past them
unfoldable pub value_bit : (ℕ → ℕ) → ℕ → ℕ → ℕ → ℕ
value_bit f w n p = pick (ltb p (n * w)) (f (p / w) / 2 ^ (w - 1 - p % w) % 2) 0

-- the values f 0, .., f (n - 1) packed, w bits each, filled up to a byte with 0
unfoldable pub pack_values : (ℕ → ℕ) → ℕ → ℕ → List ℕ
pack_values f w n = bytes_of (value_bit f w n) (ceil8 (n * w))
