-- A row's fields, column by column.
-- Assumes nothing.
use Rattle.std.specs.Prelude.{Ok, Err}
use mathlib.Core.Path.{◌≡◌, refl, sym, ap, ◌∙◌}
use mathlib.Core.Bool.{Bool, true, false}
use mathlib.Core.List.{List, [], ◌∷◌, ◌++◌}
use Prim.Native.Nat.{ℕ, zero, suc, ◌+◌, ◌-◌, ◌*◌, ◌≤◌, ◌<◌}
use native.Mathlib.Omega.{arith}
use native.Mathlib.Numerals.{add-one}
use lib.ListN.{length, get_or, take, drop, drop_of_length-le}
use lib.Seq.{drop-cons}
use lib.Dec.{eqb, leb}
use borrow.Author.Tests.{eq-eqb, ne_eqb, eqb-true, eqb-false}
use Rattle.common.specs.Outcome.{pick, refused, found, need}
use Rattle.common.specs.Bytes.{ceil8, low_spare_zero, little_at}
use Rattle.row_spec.specs.Read.{read}
use Rattle.row_spec.specs.Block.{Row, field_at, fields, row, rows}
use Rattle.row_spec.specs.declared.Column.{Column}
use Rattle.row_spec.specs.declared.Field.{Field}
use Rattle.row_spec.specs.declared.ReadFault.TheVariants.{CutShort, IllFormed}

module _ (s : List ℕ) (base i at : ℕ) (cols : List Column) (acc : List Field) where
  module _ (d : Column) (more : i < length cols) where
    pub fields-cut : field_at s base i (get_or cols i d) at ≡ Err CutShort
        → fields s base i (drop i cols) at acc ≡ refused 24
    unfolding fields
    fields-cut e = rw (drop-cons cols i d more, e)

    pub fields-bad : field_at s base i (get_or cols i d) at ≡ Err IllFormed
        → fields s base i (drop i cols) at acc ≡ refused 24
    unfolding fields
    fields-bad e = rw (drop-cons cols i d more, e)

    pub fields-more : (f : Field) (next : ℕ) → field_at s base i (get_or cols i d) at ≡ Ok (read f next)
        → fields s base i (drop i cols) at acc ≡ fields s base (i + 1) (drop (i + 1) cols) next (acc ++ (f ∷ []))
    unfolding fields
    fields-more f next e =
        ap (λ (l : List Column). fields s base i l at acc) (drop-cons cols i d more) ∙ step ∙ rw add-one
      where
        step : fields s base i (get_or cols i d ∷ drop (suc i) cols) at acc
            ≡ fields s base (suc i) (drop (suc i) cols) next (acc ++ (f ∷ []))
        step = rw e

  pub fields-end : length cols ≤ i → fields s base i (drop i cols) at acc ≡ found (record { fields = acc; next = at })
  unfolding fields
  fields-end h = rw (drop_of_length-le cols h)

eqb-suc : (a b : ℕ) → eqb a b ≡ eqb (suc a) (suc b)
eqb-suc a b = by-test (eqb a b) refl
  where
    by-test : (t : Bool) → eqb a b ≡ t → t ≡ eqb (suc a) (suc b)
    by-test true e = sym (eq-eqb (suc a) (suc b) (ap suc (eqb-true a b e)))
    by-test false e = sym (ne_eqb (suc a) (suc b) (λ q. eqb-false a b e (omega arith)))

-- element k of a list with one more at its end
pub kept_next : {A : Type 0} (l : List A) (f : A) (k : ℕ) (d : A)
    → get_or (l ++ (f ∷ [])) k d ≡ pick (eqb (length l) k) f (get_or l k d)
kept_next [] f zero d = refl
kept_next [] f (suc k) d = rw (ne_eqb 0 (suc k) (λ e. omega arith))
kept_next (x ∷ xs) f zero d = rw (ne_eqb (suc (length xs)) 0 (λ e. omega arith))
kept_next (x ∷ xs) f (suc k) d =
    kept_next xs f k d ∙ ap (λ (t : Bool). pick t f (get_or xs k d)) (eqb-suc (length xs) k)

module _ (s : List ℕ) (cols : List Column) (at n : ℕ) (same : length cols ≡ n) where
  pub row-short : leb (at + ceil8 n) (length s) ≡ false → row s cols at ≡ refused 24
  unfolding row need
  row-short e = rw (same, e)

  module _ (room : leb (at + ceil8 n) (length s) ≡ true) where
    pub row-spare : low_spare_zero s at n ≡ false → row s cols at ≡ refused 24
    unfolding row need
    row-spare e = rw (same, room, e)

    pub row-fields : low_spare_zero s at n ≡ true → row s cols at ≡ fields s at 0 cols (at + ceil8 n) []
    unfolding row need
    row-fields e = rw (same, room, e)

pub picked : (t : Bool) (x y : List Field) (k : ℕ) (d : Field)
    → get_or (pick t x y) k d ≡ pick t (get_or x k d) (get_or y k d)
picked true x y k d = refl
picked false x y k d = refl

module _ (s : List ℕ) (cols : List Column) (end i n at : ℕ) (acc : List (List Field)) where
  module _ (more : i < n) where
    one : n - i ≡ suc (n - (i + 1))
    one = omega arith

    pub rows-off : (little_at s (end + i * 4) 4 ≡ at → ⊥) → rows s cols end i (n - i) at acc ≡ refused 23
    unfolding rows need
    rows-off e = rw (one, ne_eqb (little_at s (end + i * 4) 4) at e)

    module _ (here : little_at s (end + i * 4) 4 ≡ at) where
      pub rows-bad : (m : ℕ) → row (take end s) cols at ≡ refused m → rows s cols end i (n - i) at acc ≡ refused m
      unfolding rows need
      rows-bad m e = rw (one, eq-eqb (little_at s (end + i * 4) 4) at here, e)

      pub rows_more : (r : Row) → row (take end s) cols at ≡ found r
          → rows s cols end i (n - i) at acc ≡ rows s cols end (i + 1) (n - (i + 1)) r.next (acc ++ (r.fields ∷ []))
      unfolding rows need
      rows_more r e = ap (λ (k : ℕ). rows s cols end i k at acc) one ∙ step ∙ rw add-one
        where
          step : rows s cols end i (suc (n - (i + 1))) at acc
              ≡ rows s cols end (suc i) (n - (i + 1)) r.next (acc ++ (r.fields ∷ []))
          step = rw (eq-eqb (little_at s (end + i * 4) 4) at here, e)

  module _ (done : n ≤ i) where
    none : n - i ≡ 0
    none = omega arith

    pub rows_end : at ≡ end → rows s cols end i (n - i) at acc ≡ found acc
    unfolding rows need
    rows_end e = rw (none, eq-eqb at end e)

    pub rows-over : (at ≡ end → ⊥) → rows s cols end i (n - i) at acc ≡ refused 23
    unfolding rows need
    rows-over e = rw (none, ne_eqb at end e)
