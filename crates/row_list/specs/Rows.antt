-- What the listing of rows promises.
use Rattle.std.specs.Prelude.{ℕ, ◌+◌, ◌*◌, ◌<◌, ◌≡◌, length, get_or, false}
use mathlib.Core.List.{List, [], ◌++◌, map, flatten}
use Rattle.common.specs.Outcome.{found}
use Rattle.row_spec.specs.Value.{storage_of}
use Rattle.row_spec.specs.Block.{Row, row, block}
use Rattle.row_spec.specs.Page.{page_of, written}
use Rattle.row_spec.specs.declared.Column.{Column}
use Rattle.row_spec.specs.declared.Field.{Field}
use Rattle.row_spec.specs.declared.Storage.{Storage}
use Rattle.row_laws.specs.Shown.{row_start}

-- how the values of a column are stored in rows
abbrev pub row_storage : Column → Storage
row_storage c = storage_of false c.ty

-- A row at at, of columns that are stored so: the list, which held the numbers of the fields of done, up to k, holds
-- those of the row too, and the next row starts at next.
pub record RowListed (s : List ℕ) (sts : List Storage) (at k : ℕ) (before after : List ℕ) (next : ℕ) : Type 0 where
  pub says : (cols : List Column) (x : Row) (done : List Field) (base : List ℕ)
      → sts ≡ map row_storage cols → row s cols at ≡ found x
      → before ≡ written done base → k ≡ 3 * length done
      → (next ≡ x.next) × (after ≡ written (done ++ x.fields) base)

-- the rows rs stand one after the other, the first of them row p
abbrev pub RowsStand : List ℕ → List Column → ℕ → List (List Field) → Type 0
RowsStand s cols p rs =
    (q : ℕ) → q < length rs
    → (x : Row) × ((row s cols (row_start s cols (p + q)) ≡ found x) × (x.fields ≡ get_or rs q []))

-- n rows of these columns from from on: the list holds their numbers
pub record RowsListed (s : List ℕ) (cols : List Column) (from n : ℕ) (before after : List ℕ) : Type 0 where
  pub says : (p : ℕ) (rs : List (List Field)) → length rs ≡ n → from ≡ row_start s cols p → RowsStand s cols p rs
      → after ≡ written (flatten rs) before

-- the page of an accepted block of so many rows from row p on
pub record BlockListed (s : List ℕ) (cols : List Column) (rows p room given : ℕ) (before after : List ℕ) : Type 0 where
  pub says : (rs : List (List Field)) → block cols s ≡ found rs → length rs ≡ rows
      → (given ≡ (page_of (length cols) rs p room).given)
      × (after ≡ written (page_of (length cols) rs p room).fields before)
