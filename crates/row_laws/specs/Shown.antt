-- What an accepted row block shows: where its rows and fields start, and what each field is.
use Rattle.std.specs.Prelude.{Ok, ℕ, zero, suc, ◌+◌, ◌-◌, ◌*◌, ◌<◌, ◌≡◌, true, false, List, length, get_or, take}
use Rattle.common.specs.Outcome.{found}
use Rattle.common.specs.Bytes.{ceil8, little_at, low_bit}
use Rattle.row_spec.specs.Schema.{schema, blank_column}
use Rattle.row_spec.specs.Read.{read}
use Rattle.row_spec.specs.Value.{Value, value_at, on_value}
use Rattle.row_spec.specs.Block.{field_at, block}
use Rattle.row_spec.specs.Answer.{inside}
use Rattle.row_spec.specs.declared.Column.{Column}
use Rattle.row_spec.specs.declared.Field.{Field}
use Rattle.row_spec.specs.declared.Field.TheVariants.{Null}

-- where a value that was read ends
abbrev pub end_of : Value → ℕ
end_of v = on_value v 0 0 (λ f next. next)

-- "a null bitmap of ceil(columns/8) bytes, ..; then the non-null fields": where field c of the row at base starts
unfoldable pub field_start : List ℕ → List Column → ℕ → ℕ → ℕ
field_start s cols base zero = base + ceil8 (length cols)
field_start s cols base (suc c) = end_of (field_at s base c (get_or cols c blank_column) (field_start s cols base c))

-- "Rows touch: offset 0 is 0, each next offset is the end of the row before": where row r starts
unfoldable pub row_start : List ℕ → List Column → ℕ → ℕ
row_start s cols zero = 0
row_start s cols (suc r) = field_start s cols (row_start s cols r) (length cols)

-- "Rows, then one 4-byte offset a row, then a 4-byte row count, little endian"
module _ (s : List ℕ) where
  abbrev pub count_of : ℕ
  count_of = little_at s (length s - 4) 4

  abbrev pub offsets_at : ℕ
  offsets_at = length s - 4 - 4 * count_of

  -- "Fields are read up to there at most"
  abbrev pub row_bytes : List ℕ
  row_bytes = take offsets_at s

-- "offset 0 is 0, each next offset is the end of the row before, and the last row (or 0, without rows) ends where
-- the offsets start"
pub record Touches (cols : List Column) (s : List ℕ) : Type 0 where
  pub offset : (r : ℕ) → r < count_of s → little_at s (offsets_at s + r * 4) 4 ≡ row_start (row_bytes s) cols r
  pub last : row_start (row_bytes s) cols (count_of s) ≡ offsets_at s

module _ (cols : List Column) (s : List ℕ) (r c : ℕ) where
  -- "column i at bit i mod 8 from the low end of byte i/8, set for null"
  abbrev pub null_bit : ℕ
  null_bit = low_bit (row_bytes s) (row_start (row_bytes s) cols r) c

  -- where the fields before column c end
  abbrev pub field_place : ℕ
  field_place = field_start (row_bytes s) cols (row_start (row_bytes s) cols r) c

-- What the field f of row r and column c is: null exactly if the row's null bit is set ("A null in a NOT NULL column
-- makes the row bad"); otherwise the value of its column's type where the fields before it end. Its place, if it is
-- one, lies within the block.
pub record Shows (cols : List Column) (s : List ℕ) (r c : ℕ) (f : Field) : Type 0 where
  pub null : null_bit cols s r c ≡ 1 → f ≡ Null
  pub only : f ≡ Null → null_bit cols s r c ≡ 1
  pub allowed : f ≡ Null → (get_or cols c blank_column).nullable ≡ true
  pub value : (null_bit cols s r c ≡ 1 → ⊥)
      → value_at false (row_bytes s) (field_place cols s r c) (get_or cols c blank_column).ty
      ≡ Ok (read f (field_place cols s r (suc c)))
  pub within : inside (length s) f ≡ true

-- a question that was answered with f: schema and block are accepted, row and column exist, and f is the stored field
pub record Stored (d s : List ℕ) (r c : ℕ) (f : Field) : Type 0 where
  pub cols : List Column
  pub read : schema d ≡ found cols
  pub rows : List (List Field)
  pub accepted : block cols s ≡ found rows
  pub row : r < length rows
  pub column : c < length cols
  pub shows : Shows cols s r c f
