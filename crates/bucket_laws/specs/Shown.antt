-- What an accepted bucket shows at a row and a column that it has.
use Rattle.std.specs.Prelude.{ℕ, suc, ◌+◌, ◌*◌, ◌^◌, ◌≤◌, ◌<◌, ◌≡◌, ◌⊎◌, Ok, Bool, true, List, length, get_or}
use Rattle.common.specs.Outcome.{Outcome, found}
use Rattle.common.specs.Bytes.{ceil8, low_bit, low_bits}
use Rattle.row_spec.specs.Varint.{varint, varint_at}
use Rattle.row_spec.specs.Schema.{schema, blank_column}
use Rattle.row_spec.specs.Read.{read}
use Rattle.row_spec.specs.Value.{value_at}
use Rattle.row_spec.specs.Answer.{inside}
use Rattle.row_spec.specs.declared.Column.{Column}
use Rattle.row_spec.specs.declared.ColumnType.{ColumnType}
use Rattle.row_spec.specs.declared.Field.{Field}
use Rattle.row_spec.specs.declared.Field.TheVariants.{Null}
use Rattle.bucket_spec.specs.Piece.{values, index_width, live}
use Rattle.bucket_spec.specs.Bucket.{Judged, mapped, answer, bucket}

-- Of m values of a type from at on, f is value j: it is read where the j before it end.
pub record Among (s : List ℕ) (t : ColumnType) (at m j : ℕ) (f : Field) : Type 0 where
  pub end : ℕ
  pub all : values s t m at ≡ found end
  pub below : j < m
  pub place : ℕ
  pub before : values s t j at ≡ found place
  pub next : ℕ
  pub reads : value_at true s place t ≡ Ok (read f next)

-- "ceil(log2(e))": the least w for which 2^w is not below e
pub record CeilLog (e w : ℕ) : Type 0 where
  pub enough : e ≤ 2 ^ w
  pub least : (v : ℕ) → e ≤ 2 ^ v → w ≤ v

-- Of m indexes at cells into the table at table, index j names the entry f: "number of entries 2 to 255, then entries";
-- "one index for each, low bits first, .. ceil(log2(entries)) bits wide".
pub record Entry (s : List ℕ) (t : ColumnType) (table cells m j : ℕ) (f : Field) : Type 0 where
  pub entries : ℕ
  pub first : ℕ
  -- whether the number is shortest is free
  pub short : Bool
  pub count : varint_at s table ≡ Ok (varint entries first short)
  pub least : 2 ≤ entries
  pub most : entries ≤ 255
  pub width : CeilLog entries (index_width entries)
  pub below : j < m
  pub room : cells + ceil8 (m * index_width entries) ≤ length s
  pub entry : Among s t first entries (low_bits s cells (j * index_width entries) (index_width entries)) f

-- column i of the accepted bucket b: the schema's columns, n rows, the bytes
module _ (cols : List Column) (n : ℕ) (s : List ℕ) (b : Judged) (i : ℕ) where
  abbrev pub column_at : Column
  column_at = get_or cols i blank_column

  -- "2-bit encoding tags; has-nulls bits": 0 PLAIN, 1 CONST, 2 DICT, 3 ALL_NULL
  abbrev pub tag_at : ℕ
  tag_at = low_bits s b.tags (2 * i) 2

  abbrev pub has_nulls : ℕ
  has_nulls = low_bit s (b.tags + ceil8 (2 * length cols)) i

  abbrev pub const_at : ℕ
  const_at = get_or b.layout.consts i 0

  abbrev pub table_at : ℕ
  table_at = get_or b.layout.tables i 0

  abbrev pub nulls_at : ℕ
  nulls_at = get_or b.layout.nulls i 0

  abbrev pub cells_at : ℕ
  cells_at = get_or b.layout.cells i 0

  -- the answer to row r
  abbrev pub reply_at : ℕ → Outcome Field
  reply_at r = answer cols n s b.tags (b.tags + ceil8 (2 * length cols)) r i b.layout

  -- "A set null bit means null. ALL_NULL has no bitmap and no data, whatever its has-nulls bit."
  abbrev pub NullAt : ℕ → Type 0
  NullAt r = (tag_at ≡ 3) ⊎ ((has_nulls ≡ 1) × (low_bit s nulls_at r ≡ 1))

  -- how many rows before row r are not null
  abbrev pub live_before : ℕ → ℕ
  live_before r = live s (mapped cols n s b.tags (b.tags + ceil8 (2 * length cols)) i) nulls_at r

  -- the value of row r, not null, by the column's tag
  abbrev pub PlainAt : ℕ → Field → Type 0
  PlainAt r f = Among s column_at.ty cells_at (live_before n) (live_before r) f

  abbrev pub ConstAt : Field → Type 0
  ConstAt f = Among s column_at.ty const_at 1 0 f

  abbrev pub DictAt : ℕ → Field → Type 0
  DictAt r f = Entry s column_at.ty table_at cells_at (live_before n) (live_before r) f

-- The number of rows that are not null, row by row, in a column that is not ALL_NULL.
pub record Counts (cols : List Column) (n : ℕ) (s : List ℕ) (b : Judged) (i : ℕ) : Type 0 where
  pub none : live_before cols n s b i 0 ≡ 0
  pub some : (r : ℕ) → (NullAt cols n s b i r → ⊥) → live_before cols n s b i (suc r) ≡ suc (live_before cols n s b i r)
  pub null : (r : ℕ) → (tag_at cols n s b i ≡ 3 → ⊥) → NullAt cols n s b i r
      → live_before cols n s b i (suc r) ≡ live_before cols n s b i r

-- What the field f of row r and column i is. Null exactly if the column is ALL_NULL or its bitmap's bit is set, and
-- then the column may be null. Otherwise "PLAIN has the non-null values; DICT .. has one index for each": the value, or
-- the entry of the index, whose number is how many rows before r are not null; or the one CONST value. Its place, if it
-- is one, lies within the bucket.
pub record Shows (cols : List Column) (n : ℕ) (s : List ℕ) (b : Judged) (r i : ℕ) (f : Field) : Type 0 where
  pub null : NullAt cols n s b i r → f ≡ Null
  pub only : f ≡ Null → NullAt cols n s b i r
  pub allowed : f ≡ Null → (column_at cols n s b i).nullable ≡ true
  pub tag : tag_at cols n s b i < 4
  pub plain : (NullAt cols n s b i r → ⊥) → tag_at cols n s b i ≡ 0 → PlainAt cols n s b i r f
  pub const : (NullAt cols n s b i r → ⊥) → tag_at cols n s b i ≡ 1 → ConstAt cols n s b i f
  pub dict : (NullAt cols n s b i r → ⊥) → tag_at cols n s b i ≡ 2 → DictAt cols n s b i r f
  pub within : inside (length s) f ≡ true

-- the answer o to a question for row r and column i
pub record Answered (o : Outcome Field) (cols : List Column) (n : ℕ) (s : List ℕ) (b : Judged) (r i : ℕ) : Type 0 where
  pub field : Field
  pub given : o ≡ found field
  pub shows : Shows cols n s b r i field

-- a question that was answered with f: schema and bucket are accepted, row and column exist, and f is the stored field
pub record Stored (d : List ℕ) (n : ℕ) (s : List ℕ) (r i : ℕ) (f : Field) : Type 0 where
  pub cols : List Column
  pub read : schema d ≡ found cols
  pub judged : Judged
  pub accepted : bucket cols n s ≡ found judged
  pub row : r < n
  pub column : i < length cols
  pub shows : Shows cols n s judged r i f
