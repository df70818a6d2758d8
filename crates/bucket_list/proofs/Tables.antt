-- A table's entries, listed one after the other, are three numbers each: an index names those of its entry.
-- Assumes nothing.
use mathlib.Core.Path.{◌≡◌, sym, ap, ◌∙◌}
use mathlib.Core.Bool.{Bool, true, false}
use mathlib.Core.List.{List, [], ◌∷◌, ◌++◌}
use Prim.Native.Nat.{ℕ, suc, ◌+◌, ◌*◌, ◌≤◌, ◌<◌}
use Rattle.std.specs.Prelude.{None}
use native.Mathlib.Nat.{zero-add}
use native.Mathlib.Omega.{arith}
use lib.ListN.{length, get_or, take, drop, length-append, length-drop}
use lib.Seq.{drop-cons, drop-append-le, take-append-le}
use Rattle.common.specs.Outcome.{pick, found}
use Rattle.common.specs.Bytes.{low_bits}
use Rattle.common.proofs.Outcomes.{clash, same-found}
use Rattle.row_spec.specs.Page.{listed, numbers_of, written}
use Rattle.row_spec.specs.declared.ColumnType.{ColumnType}
use Rattle.row_spec.specs.declared.Field.{Field}
use Rattle.row_spec.specs.declared.Field.TheVariants.{Null}
use Rattle.row_laws.proofs.Pages.{numbers-length, numbers-at}
use Rattle.value_list.specs.declared.Cell.{Cell}
use Rattle.value_list.specs.Cell.{numbers_in}
use Rattle.bucket_spec.specs.Piece.{nth, live}
use Rattle.bucket_laws.specs.Shown.{Among}
use Rattle.bucket_laws.proofs.Runs.{run_value, run-nth}
use Rattle.bucket_laws.proofs.Pages.{answers-found}
use Rattle.bucket_list.specs.declared.Rows.{Rows}
use Rattle.bucket_list.specs.Listed.{null_at, live_at, RowIs, RowsListed, ValueIs, entry_in, ListedIn}

-- three numbers of a list
three : (l : List ℕ) (k : ℕ) → k + 3 ≤ length l
    → get_or l k 0 ∷ get_or l (k + 1) 0 ∷ get_or l (k + 2) 0 ∷ [] ≡ take 3 (drop k l)
three l k h =
    let second : k + 1 ≡ suc k = omega arith in
    let third : k + 2 ≡ suc (suc k) = omega arith in
    rw (
      second,
      third,
      drop-cons l k 0 (omega arith),
      drop-cons l (suc k) 0 (omega arith),
      drop-cons l (suc (suc k)) 0 (omega arith),
    )

-- entry k of a list of fields
written_at : (es : List Field) (base : List ℕ) (k : ℕ) → k < length es
    → entry_in (written es base) k ≡ listed (get_or es k Null)
unfolding written
written_at es base k h =
    let long = numbers-length es in
    let left = length-drop (3 * k) (numbers_of es) in
    let rest = drop (length (numbers_of es)) base in
    three (numbers_of es ++ rest) (3 * k) (omega (arith, length-append (numbers_of es) rest))
    ∙ ap (take 3) (drop-append-le (3 * k) (numbers_of es) rest (omega arith))
    ∙ take-append-le 3 (drop (3 * k) (numbers_of es)) rest (omega arith) ∙ numbers-at es k h

-- the cell of row m is Null, or the entry that its index names
pub row_listed : (s table : List ℕ) (w cells : ℕ) (x : Rows) (m j k : ℕ) (null : Bool) (c : Cell) → j ≡ live_at s x m
    → null ≡ null_at s x m → k ≡ low_bits s cells (j * w) w → numbers_in c ≡ pick null (listed Null) (entry_in table k)
    → (f : Field) → RowIs (ListedIn s table w cells) s x m f → numbers_in c ≡ listed f
row_listed s table w cells x m j k null c at is index numbers f row = by-null null is numbers
  where
    by-null : (b : Bool) → b ≡ null_at s x m → numbers_in c ≡ pick b (listed Null) (entry_in table k)
        → numbers_in c ≡ listed f
    by-null true e q = q ∙ ap listed (sym (row.0 (sym e)))
    by-null false e q = q ∙ rw (index, at) (row.1 (sym e))

-- ---- a table
-- no row of a table is null
abbrev pub entries_alone : ℕ → Rows
entries_alone n = record { nulls = None; place = 0; given = n }

-- a table that was listed has the numbers of each of its entries
pub entry_listed : (s : List ℕ) (t : ColumnType) (at n k : ℕ) (f : Field) (base table : List ℕ)
    → RowsListed (ValueIs s t at) s (entries_alone n) base table → Among s t at n k f → entry_in table k ≡ listed f
unfolding live
entry_listed s t at n k f base table lists a =
    let each : (j : ℕ) → j < n → (g : Field) × (nth s t at (0 + j) ≡ found g) =
    λ j less. let y = run_value s t n j at a.end less a.all in
    rw (zero-add j) (y.0, run-nth s t n j at y.0 y.1) in
    let es = answers-found (nth s t at) 0 n each in
    let all = lists.says es.0 es.1.1.0 (λ j less. (λ e. clash (cc), λ e. es.1.1.1 j less)) in
    let same : get_or es.0 k Null ≡ f =
    same-found (sym (rw (zero-add k) at (es.1.1.1 k a.below)) ∙ run-nth s t n k at f a) in
    ap (λ (l : List ℕ). entry_in l k) all ∙ written_at es.0 base k (rw es.1.1.0 a.below) ∙ ap listed same
