-- The forms of a number in groups of seven bits, and the rule of 01 that reads only the shortest.
use Rattle.std.specs.Prelude.{Result, Ok, Err, ℕ, zero, suc, ◌+◌, ◌-◌, ◌*◌, ◌^◌, ◌≤◌, ◌<◌, ◌≡◌, Bool, true, List}
use Rattle.std.specs.Prelude.{length, get_or, take, drop, leb, ltb, eqb}
use Rattle.common.specs.Outcome.{pick, both}
use Rattle.row_spec.specs.Varint.{varint, padded, groups_of}
use Rattle.row_spec.specs.declared.Varint.{Varint}
use Rattle.row_spec.specs.declared.ReadFault.{ReadFault}
use Rattle.row_spec.specs.declared.ReadFault.TheVariants.{CutShort, IllFormed}

-- each number of s is a byte
abbrev pub Bytes : List ℕ → Type 0
Bytes s = (i : ℕ) → get_or s i 0 < 256

-- "any form up to five bytes and 4,294,967,295": n fits k groups, so that the last byte has no high bit; the k bytes at
-- `at` are there and are n in k groups; short says whether k is the least number of groups that hold n
pub record Form (s : List ℕ) (at k n : ℕ) (short : Bool) : Type 0 where
  pub some : 1 ≤ k
  pub few : k ≤ 5
  pub holds : n < 128 ^ k
  pub most : n ≤ 4294967295
  pub bytes : take k (drop at s) ≡ padded k n
  pub mark : short ≡ eqb k (groups_of n)

-- fewer than five bytes are left, and all have the high bit
pub record Cut (s : List ℕ) (at : ℕ) : Type 0 where
  pub few : length s < at + 5
  pub high : (i : ℕ) → at + i < length s → 128 ≤ get_or s (at + i) 0

-- k bytes with the high bit from at on, then one over 0F
pub record Over (s : List ℕ) (k at : ℕ) : Type 0 where
  pub there : at + k < length s
  pub high : (i : ℕ) → i < k → 128 ≤ get_or s (at + i) 0
  pub over : 15 < get_or s (at + k) 0

-- ---- 01's rule: "at most 5 bytes, at most 4,294,967,295, no longer than needed"
unfoldable pub strict_last : ℕ → ℕ → ℕ → ℕ → Result Varint ReadFault
strict_last b w v next =
    pick (both (eqb b 0) (ltb 1 w)) (Err IllFormed)
    (pick (leb (v + b * w) 4294967295) (Ok (varint (v + b * w) next true)) (Err IllFormed))

unfoldable pub strict_groups : List ℕ → ℕ → ℕ → ℕ → ℕ → Result Varint ReadFault
strict_groups s zero at w v = Err IllFormed
strict_groups s (suc k) at w v =
    pick (ltb at (length s))
    (pick (ltb (get_or s at 0) 128)
    (strict_last (get_or s at 0) w v (at + 1))
    (strict_groups s k (at + 1) (w * 128) (v + (get_or s at 0 - 128) * w)))
    (Err CutShort)

unfoldable pub strict_at : List ℕ → ℕ → Result Varint ReadFault
strict_at s at = strict_groups s 5 at 1 0

-- what 01's rule makes of a reading: a padded number is ill-formed
abbrev pub strictly : Result Varint ReadFault → Result Varint ReadFault
strictly (Ok r) = pick r.shortest (Ok r) (Err IllFormed)
strictly (Err f) = Err f
