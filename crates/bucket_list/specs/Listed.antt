-- What the listing of a column's rows asks and promises.
use Rattle.std.specs.Prelude.{ℕ, ◌+◌, ◌-◌, ◌*◌, ◌/◌, ◌≤◌, ◌<◌, min, ◌≡◌, Bool, true, false, List, [], ◌∷◌, length}
use Rattle.std.specs.Prelude.{get_or, take, drop}
use Rattle.common.specs.Outcome.{Outcome, found, after}
use Rattle.common.specs.Bytes.{ceil8, low_bits}
use Rattle.row_spec.specs.Page.{listed, written}
use Rattle.row_spec.specs.Schema.{columns_of}
use Rattle.row_spec.specs.declared.ColumnType.{ColumnType}
use Rattle.row_spec.specs.declared.Field.{Field}
use Rattle.row_spec.specs.declared.Field.TheVariants.{Null}
use Rattle.row_spec.specs.declared.Schema.{Schema}
use Rattle.bucket_spec.specs.Piece.{nth, live}
use Rattle.bucket_spec.specs.Bucket.{Judged, bucket}
use Rattle.bucket_spec.specs.Page.{column}
use Rattle.bucket_spec.specs.Read.{is_mapped, bitmap_start, layout_read}
use Rattle.bucket_spec.specs.declared.Encoding.TheVariants.{Plain, Const, Dict, AllNull}
use Rattle.bucket_spec.specs.declared.Pieces.{Pieces}
use Rattle.bucket_parts.specs.Told.{Columns}
use Rattle.value_list.specs.Cell.{null_bit}
use Rattle.bucket_spec.specs.declared.Bucket.{Bucket}
use Rattle.bucket_laws.specs.Shown.{Among, Entry}
use Rattle.bucket_list.specs.declared.Rows.{Rows}
use Rattle.bucket_list.specs.declared.Table.{Table}

-- The list holds the numbers of n fields, whichever they are, if P holds of each: of field m at m.
pub record Lists (P : ℕ → Field → Type 0) (n : ℕ) (before after : List ℕ) : Type 0 where
  pub says : (fs : List Field) → length fs ≡ n → ((m : ℕ) → m < n → P m (get_or fs m Null)) → after ≡ written fs before

-- ---- rows of a column
-- there are so few, and the list has room for them
pub record Fit (x : Rows) (list : List ℕ) : Type 0 where
  pub few : x.place + x.given ≤ 65536
  pub room : 3 * x.given ≤ length list

-- whether row m of these is null, by the column's bitmap, if it has one
abbrev pub null_at : List ℕ → Rows → ℕ → Bool
null_at s x m = null_bit s x.nulls (x.place + m)

-- how many rows of the column before row m of these are not null
abbrev pub live_at : List ℕ → Rows → ℕ → ℕ
live_at s x m = live s (is_mapped x.nulls) (bitmap_start x.nulls) (x.place + m)

-- f is the field of row m: Null if the row is, else P holds of it, by how many rows before it are not null
abbrev pub RowIs : (ℕ → Field → Type 0) → List ℕ → Rows → ℕ → Field → Type 0
RowIs P s x m f = (null_at s x m ≡ true → f ≡ Null) × (null_at s x m ≡ false → P (live_at s x m) f)

abbrev pub RowsListed : (ℕ → Field → Type 0) → List ℕ → Rows → List ℕ → List ℕ → Type 0
RowsListed P s x before after = Lists (RowIs P s x) x.given before after

-- ---- values of rows that are not null
-- the place after values; 0 if they are refused
abbrev pub end_of : Outcome ℕ → ℕ
end_of o = after o (λ p. p) 0

-- f is value j of those from at on
abbrev pub ValueIs : List ℕ → ColumnType → ℕ → ℕ → Field → Type 0
ValueIs s t at j f = nth s t at j ≡ found f

-- entry k of a table of numbers, three for each entry
abbrev pub entry_in : List ℕ → ℕ → List ℕ
entry_in table k = get_or table (3 * k) 0 ∷ get_or table (3 * k + 1) 0 ∷ get_or table (3 * k + 2) 0 ∷ []

-- the entry that index j names, of indexes of w bits at cells, has the numbers of f
abbrev pub ListedIn : List ℕ → List ℕ → ℕ → ℕ → ℕ → Field → Type 0
ListedIn s table w cells j f = entry_in table (low_bits s cells (j * w) w) ≡ listed f

-- the entry that index j names is f
abbrev pub EntryIs : List ℕ → ColumnType → Table → ℕ → Field → Type 0
EntryIs s t e j f = Among s t e.from e.entries (low_bits s e.cells (j * e.width) e.width) f

-- ---- a column
-- the rows x of a column with these pieces, by its encoding
pub record ColumnListed (s : List ℕ) (t : ColumnType) (c : Pieces) (x : Rows) (before after : List ℕ) : Type 0 where
  pub plain : c.encoding ≡ Plain → RowsListed (ValueIs s t c.cells) s x before after
  pub const : c.encoding ≡ Const → RowsListed (λ j f. Among s t c.start 1 0 f) s x before after
  pub dict : c.encoding ≡ Dict → (m : ℕ) → RowsListed (Entry s t c.table c.cells m) s x before after
  pub nulls : c.encoding ≡ AllNull → Lists (λ m f. f ≡ Null) x.given before after

-- column i is there in a bucket that was judged by the schema
pub record ColumnThere (sc : Schema) (b : Bucket) (i : ℕ) : Type 0 where
  pub columns : Columns sc
  pub framed : b.frame.has ≡ b.frame.tags + ceil8 (2 * sc.count)
  pub there : i < sc.count

-- what the code holds of an accepted bucket
abbrev pub judged_of : Schema → Bucket → Judged
judged_of sc b = record { tags = b.frame.tags; layout = layout_read sc.count b }

-- a page of column i, from row p on, in a list with so much room: how many rows it gives, and their fields
pub record PageListed (sc : Schema) (n : ℕ) (s : List ℕ) (b : Bucket) (i p room given : ℕ) (before after : List ℕ)
    : Type 0 where
  pub gives : given ≡ min (room / 3) (n - p)
  pub holds : (fs : List Field) → bucket (columns_of sc) n s ≡ found (judged_of sc b)
      → column (columns_of sc) n s i (judged_of sc b) ≡ found fs → after ≡ written (take (room / 3) (drop p fs)) before
