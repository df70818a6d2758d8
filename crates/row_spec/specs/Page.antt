-- Pages of a table: its rows' fields as numbers in a lent list, three for each field, as many whole rows as the list
-- takes.
use Rattle.std.specs.Prelude.{ℕ, Result, ◌+◌, ◌-◌, ◌*◌, ◌/◌, ◌≡◌, length, take, drop, ℤ, pos, negsuc}
use mathlib.Core.List.{List, [], ◌∷◌, ◌++◌, flat_map, flatten}
use Rattle.std.specs.Float.{binary32, binary64}
use Rattle.std.specs.Float.Ieee.{to_bits}
use Rattle.common.specs.Outcome.{one, Outcome, refused, found, then, after}
use Rattle.common.specs.Refusal.{outcome}
use Rattle.row_spec.specs.Schema.{schema}
use Rattle.row_spec.specs.Block.{block}
use Rattle.row_spec.specs.declared.Field.{Field}
use Rattle.row_spec.specs.declared.Field.TheVariants as field
use Rattle.common.specs.declared.Refusal.{Refusal}
use Rattle.row_spec.specs.declared.PageCounts.{PageCounts}

-- a whole number of 64 bits as its two's complement
unfoldable pub unsigned : ℤ → ℕ
unsigned (pos n) = n
unsigned (negsuc n) = 18446744073709551615 - n

-- a field in three numbers: its kind, as `shown` has it; the whole number, bits, count or start; the nanoseconds or
-- length
unfoldable pub listed : Field → List ℕ
listed field.Null = 0 ∷ 0 ∷ 0 ∷ []
listed (field.Bool b) = 1 ∷ one b ∷ 0 ∷ []
listed (field.Whole z) = 2 ∷ unsigned z ∷ 0 ∷ []
listed (field.F32 x) = 3 ∷ to_bits binary32 x ∷ 0 ∷ []
listed (field.NanF32 n) = 3 ∷ n ∷ 0 ∷ []
listed (field.F64 x) = 4 ∷ to_bits binary64 x ∷ 0 ∷ []
listed (field.NanF64 n) = 4 ∷ n ∷ 0 ∷ []
listed (field.Time z n) = 5 ∷ unsigned z ∷ n ∷ []
listed (field.Place a l) = 6 ∷ a ∷ l ∷ []

-- the numbers of fields, one after the other
abbrev pub numbers_of : List Field → List ℕ
numbers_of fs = flat_map listed fs

-- the fields that a page gives, of how many rows they are, and how many rows there are in all
pub record Page : Type 0 where
  pub fields : List Field
  pub given : ℕ
  pub rows : ℕ

-- the rows from row p on, as many whole ones as a list of so many numbers takes
unfoldable pub rows_from : ℕ → List (List Field) → ℕ → ℕ → List (List Field)
rows_from width rs p room = take (room / (3 * width)) (drop p rs)

-- the page of the rows rs, each of width fields, from row p on
unfoldable pub page_of : ℕ → List (List Field) → ℕ → ℕ → Page
page_of width rs p room = record {
  fields = flatten (rows_from width rs p room);
  given = length (rows_from width rs p room);
  rows = length rs;
}

-- the page of a block: 20 to 24 as for every question; a row that is not there is no refusal
unfoldable pub block_page : List ℕ → List ℕ → ℕ → ℕ → Outcome Page
block_page d s p room = then (schema d) (λ cols. then (block cols s) (λ rs. found (page_of (length cols) rs p room)))

-- a list after a page of these fields: their numbers, then the rest unchanged
unfoldable pub written : List Field → List ℕ → List ℕ
written fs before = numbers_of fs ++ drop (length (numbers_of fs)) before

-- what a page is answered
abbrev pub page_told : Outcome Page → Outcome PageCounts
page_told (refused n) = refused n
page_told (found x) = found (record { given = x.given; rows = x.rows })

-- a page of outcome o is answered with r and turns the list before into now; a refusal leaves it
pub record Paged (o : Outcome Page) (r : Result PageCounts Refusal) (before now : List ℕ) : Type 0 where
  pub says : outcome r ≡ page_told o
  pub holds : now ≡ after o (λ x. written x.fields before) before

-- ---- pages one after the other, each from where the one before ended

-- all fields that they give, and the place after them
pub record Pages : Type 0 where
  pub fields : List Field
  pub place : ℕ

-- by what a page from a place on with a room is, for each of these rooms
unfoldable pub pages : (ℕ → ℕ → Outcome Page) → ℕ → List ℕ → Outcome Pages
pages call p [] = found (record { fields = []; place = p })
pages call p (m ∷ ms) =
    then (call p m) (λ x.
    then (pages call (p + x.given) ms) (λ y.
    found (record { fields = x.fields ++ y.fields; place = y.place })))
