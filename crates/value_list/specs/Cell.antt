-- What a cell holds of a stored value, and a list of cells of the fields in their order.
use Rattle.std.specs.Prelude.{ℕ, Bool, false, Option, Some, None, Ok, suc, ◌+◌, ◌*◌, ◌<◌, ◌≡◌, List, [], ◌∷◌, ◌++◌}
use Rattle.std.specs.Prelude.{length, get_or, eqb}
use Rattle.common.specs.Outcome.{pick}
use Rattle.common.specs.Bytes.{low_bit}
use Rattle.row_spec.specs.Read.{read}
use Rattle.row_spec.specs.Value.{Value, stored_at}
use Rattle.row_spec.specs.Page.{listed, written}
use Rattle.row_spec.specs.declared.Field.{Field}
use Rattle.row_spec.specs.declared.Field.TheVariants.{Null}
use Rattle.row_spec.specs.declared.Storage.{Storage}
use Rattle.row_spec.specs.declared.Storage.TheVariants.{Boolean}
use Rattle.value_list.specs.declared.Cell.{Cell}
use Rattle.value_list.specs.declared.Run.{Run}

abbrev pub cell_of : ℕ → ℕ → ℕ → ℕ → Cell
cell_of k v m next = record { kind = k; value = v; more = m; next = next }

-- the three numbers of a cell
abbrev pub numbers_in : Cell → List ℕ
numbers_in c = c.kind ∷ c.value ∷ c.more ∷ []

-- the cell holds the field that was read as v, if one was, and the place of the byte after it
pub record Holds (v : Value) (c : Cell) : Type 0 where
  pub numbers : (f : Field) (next : ℕ) → v ≡ Ok (read f next) → numbers_in c ≡ listed f
  pub ends : (f : Field) (next : ℕ) → v ≡ Ok (read f next) → c.next ≡ next

-- A list that held the numbers of the fields of done, up to k, holds those of one field more: the one in the cell.
-- What it was before them is base.
pub record Puts (k : ℕ) (c : Cell) (before after : List ℕ) : Type 0 where
  pub more : (done : List Field) (base : List ℕ) (f : Field)
      → before ≡ written done base → k ≡ 3 * length done → numbers_in c ≡ listed f
      → after ≡ written (done ++ (f ∷ [])) base

-- whether bit i of the null bits is set, if there are any
abbrev pub null_bit : List ℕ → Option ℕ → ℕ → Bool
null_bit s None i = false
null_bit s (Some at) i = eqb (low_bit s at i) 1

-- field m of a run that lies so, of which value bytes, if it has any, start at at: null where its bit is set, else
-- the value stored so
abbrev pub run_at : List ℕ → Run → ℕ → Storage → ℕ → Value
run_at s r m st at =
    pick (null_bit s r.nulls (r.bit + m)) (Ok (read Null at)) (stored_at r.big s at st)

-- how field m of a run is stored
abbrev pub stored_as : Run → List Storage → ℕ → Storage
stored_as r sts m = get_or sts (pick r.same 0 m) Boolean

-- the fields of a run stand one after the other: field m at place m
abbrev pub Stand : List ℕ → List Storage → Run → (ℕ → ℕ) → List Field → Type 0
Stand s sts r place fs =
    (m : ℕ) → m < length fs → run_at s r m (stored_as r sts m) (place m) ≡ Ok (read (get_or fs m Null) (place (suc m)))

-- A run of n fields from from on: the list, which held the numbers of the fields of done, up to k, holds those of the
-- run too.
pub record Ran (s : List ℕ) (sts : List Storage) (r : Run) (n from k : ℕ) (before after : List ℕ) (end : ℕ)
    : Type 0 where
  pub says : (place : ℕ → ℕ) (fs done : List Field) (base : List ℕ)
      → length fs ≡ n → place 0 ≡ from → Stand s sts r place fs
      → before ≡ written done base → k ≡ 3 * length done
      → (end ≡ place n) × (after ≡ written (done ++ fs) base)
