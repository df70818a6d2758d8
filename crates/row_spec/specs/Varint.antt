-- Numbers in groups of seven bits: the one rule by which schemas, blocks and buckets read counts, lengths and
-- nanoseconds.
use Rattle.std.specs.Prelude.{ℕ, Bool, Result, Ok, Err, zero, suc, ◌+◌, ◌-◌, ◌*◌, ◌/◌, ◌%◌, ◌^◌, List, [], ◌∷◌}
use Rattle.std.specs.Prelude.{length, get_or, leb, ltb}
use Rattle.common.specs.Outcome.{pick, either}
use Rattle.row_spec.specs.declared.Varint.{Varint}
use Rattle.row_spec.specs.declared.ReadFault.{ReadFault}
use Rattle.row_spec.specs.declared.ReadFault.TheVariants.{CutShort, IllFormed}

-- the number n, the place of the next byte, and whether the form is the shortest
abbrev pub varint : ℕ → ℕ → Bool → Varint
varint n next short = record { number = n; next = next; shortest = short }

-- by what was read: cut short, ill-formed, or a number and the place of the next byte; whether it was shortest is not
-- looked at
abbrev pub on_varint : {A : Type 0} → Result Varint ReadFault → A → A → (ℕ → ℕ → A) → A
on_varint (Err CutShort) cut ill f = cut
on_varint (Err IllFormed) cut ill f = ill
on_varint (Ok r) cut ill f = f r.number r.next

-- 02, "any form up to five bytes and 4,294,967,295", "whether it was shortest": the last group b has the weight w; the
-- groups before it make v; the form is shortest if it is one byte (w is 1) or if b is not 0
unfoldable pub last_group : ℕ → ℕ → ℕ → ℕ → Result Varint ReadFault
last_group b w v next =
    pick (leb (v + b * w) 4294967295) (Ok (varint (v + b * w) next (either (ltb 0 b) (leb w 1)))) (Err IllFormed)

-- "low group first, high bit set on all but the last byte": at most k groups from at on
unfoldable pub groups : List ℕ → ℕ → ℕ → ℕ → ℕ → Result Varint ReadFault
groups s zero at w v = Err IllFormed
groups s (suc k) at w v =
    pick (ltb at (length s))
    (pick (ltb (get_or s at 0) 128)
    (last_group (get_or s at 0) w v (at + 1))
    (groups s k (at + 1) (w * 128) (v + (get_or s at 0 - 128) * w)))
    (Err CutShort)

-- "at most 5 bytes"
unfoldable pub varint_at : List ℕ → ℕ → Result Varint ReadFault
varint_at s at = groups s 5 at 1 0

-- ---- the forms of a number

-- n, below 128 ^ k, in k groups: "low group first, high bit set on all but the last byte"
unfoldable pub padded : ℕ → ℕ → List ℕ
padded zero n = []
padded (suc zero) n = n ∷ []
padded (suc (suc k)) n = (n % 128 + 128) ∷ padded (suc k) (n / 128)

-- the least of j, j + 1, .. groups that hold n, after i steps at most
unfoldable pub least_from : ℕ → ℕ → ℕ → ℕ
least_from zero j n = j
least_from (suc i) j n = pick (ltb n (128 ^ j)) j (least_from i (suc j) n)

-- "no longer than needed": the least of 1 to 5 groups that hold n; a number up to 4,294,967,295 needs no more
unfoldable pub groups_of : ℕ → ℕ
groups_of n = least_from 4 1 n

-- the shortest form of n
unfoldable pub shortest : ℕ → List ℕ
shortest n = padded (groups_of n) n
