-- Of an accepted block: a row has a field for each column, every place lies within the bytes, and each field is what is
-- stored: null by the row's bit, or the value of its column's type where the fields before it end.
-- Assumes nothing.
use mathlib.Core.Path.{◌≡◌, refl}
use mathlib.Core.Bool.{Bool, true, false}
use mathlib.Core.Logic.{◌⊎◌, ⊎_elim}
use mathlib.Core.List.{List, []}
use Prim.Native.Nat.{ℕ, suc, ◌+◌, ◌*◌, ◌≤◌, ◌<◌}
use native.Mathlib.Omega.{arith}
use native.Mathlib.Nat.{min-le_right}
use borrow.Author.Tests.{leb-true, le-leb, lt-ltb, ltb-true, ltb-false}
use lib.ListN.{length, get_or, length-take, get_or-eq_default}
use lib.Dec.{leb, ltb}
use Rattle.common.specs.Outcome.{both, found, need}
use Rattle.common.proofs.Lists.{both_left, both_right}
use Rattle.common.proofs.Outcomes.{same-found, then_found}
use Rattle.row_spec.specs.Schema.{schema, blank_column}
use Rattle.row_spec.specs.Block.{rows, counted, block, asked, block_field}
use Rattle.row_spec.specs.Answer.{inside}
use Rattle.row_spec.specs.declared.Column.{Column}
use Rattle.row_spec.specs.declared.Field.{Field}
use Rattle.row_spec.specs.declared.Field.TheVariants as field
use Rattle.row_laws.specs.Shown.{row_start, count_of, offsets_at, row_bytes, Touches, field_place, Shows}
use Rattle.row_laws.specs.Shown.{Stored}
use Rattle.row_laws.proofs.Read.{need-found}
use Rattle.row_laws.proofs.Values.{value-inside, value-some, NullField, ValueField, field-cases}
use Rattle.row_laws.proofs.Starts.{Fields, row-stands, rows-many, rows-offset, rows_last, rows-here}

-- ---- places within the bytes
inside-more : (m n : ℕ) (f : Field) → m ≤ n → inside m f ≡ true → inside n f ≡ true
unfolding inside
inside-more m n (field.Place a l) h e = let k = leb-true (a + l) m e in le-leb (a + l) n (omega arith)
inside-more m n field.Null h e = refl
inside-more m n (field.Bool b) h e = refl
inside-more m n (field.Whole z) h e = refl
inside-more m n (field.F32 x) h e = refl
inside-more m n (field.F64 x) h e = refl
inside-more m n (field.NanF32 k) h e = refl
inside-more m n (field.NanF64 k) h e = refl
inside-more m n (field.Time z k) h e = refl

-- an element that is not there is the default
there-or : {A : Type 0} (P : A → Type 0) (l : List A) (i : ℕ) (d : A) → P d → (i < length l → P (get_or l i d))
    → P (get_or l i d)
there-or P l i d h g = by-test (ltb i (length l)) refl
  where
    by-test : (t : Bool) → ltb i (length l) ≡ t → P (get_or l i d)
    by-test true e = g (ltb-true i (length l) e)
    by-test false e = rw (get_or-eq_default l d (ltb-false i (length l) e)) h

-- ---- an accepted block
pub record BlockFits (n width count : ℕ) (rs : List (List Field)) : Type 0 where
  pub many : length rs ≡ count
  pub wide : (i : ℕ) → i < length rs → length (get_or rs i []) ≡ width
  pub fit : (i j : ℕ) → inside n (get_or (get_or rs i []) j field.Null) ≡ true

module _ (cols : List Column) (s : List ℕ) (rs : List (List Field)) (e : block cols s ≡ found rs) where
  accepted : rows s cols (offsets_at s) 0 (count_of s) 0 [] ≡ found rs
  unfolding block counted
  accepted =
      let a = (need-found (both (leb 4 (length s)) (leb (length s) 16777216)) 21 _ rs e).1 in
      (need-found (both (leb (count_of s) 65536) (leb (4 * count_of s + 4) (length s))) 22 _ rs a).1

  many : length rs ≡ count_of s
  many = rows-many s cols (offsets_at s) (count_of s) rs accepted

  -- "Rows touch"
  pub block-touches : Touches cols s
  block-touches =
      record {
        offset = rows-offset s cols (offsets_at s) (count_of s) rs accepted;
        last = rows_last s cols (offsets_at s) (count_of s) rs accepted;
      }

  module _ (r : ℕ) (here : r < length rs) where
    row-fields : Fields (row_bytes s) cols (row_start (row_bytes s) cols r) (length cols) (get_or rs r [])
    row-fields =
        let x = rows-here s cols (offsets_at s) (count_of s) rs accepted r (omega (arith, many)) in
        rw x.1.1 at (row-stands (row_bytes s) cols (row_start (row_bytes s) cols r) x.0 x.1.0).0

    module _ (c : ℕ) (less : c < length cols) where
      abbrev shown : Field
      shown = get_or (get_or rs r []) c field.Null

      abbrev column : Column
      column = get_or cols c blank_column

      abbrev AsNull : Type 0
      AsNull = NullField (row_bytes s) (row_start (row_bytes s) cols r) c column shown

      abbrev AsValue : Type 0
      AsValue =
          ValueField (row_bytes s) (row_start (row_bytes s) cols r) c column (field_place cols s r c) shown
          (field_place cols s r (suc c))

      cases : AsNull ⊎ AsValue
      cases = field-cases (row_bytes s) (row_start (row_bytes s) cols r) c column _ _ _ (row-fields.each c less)

      within : inside (length s) shown ≡ true
      unfolding inside
      within =
          let m = length-take (offsets_at s) s in
          let l : length (row_bytes s) ≤ length s = omega (arith, m, min-le_right (offsets_at s) (length s)) in
          let h = ⊎_elim (λ w. rw w.1.1) (λ w. value-inside (row_bytes s) _ _ false _ _ w.1) cases in
          inside-more (length (row_bytes s)) (length s) shown l h

      pub block-shows : Shows cols s r c shown
      block-shows = ⊎_elim by-null by_value cases
        where
          by-null : AsNull → Shows cols s r c shown
          by-null w =
              record {
                null = λ b. w.1.1;
                only = λ q. w.0;
                allowed = λ q. w.1.0;
                value = λ b. absurd (b w.0);
                within = within;
              }

          by_value : AsValue → Shows cols s r c shown
          by_value w =
              let some = value-some (row_bytes s) _ _ false _ _ w.1 in
              record {
                null = λ b. absurd (w.0 b);
                only = λ q. absurd (some q);
                allowed = λ q. absurd (some q);
                value = λ b. w.1;
                within = within;
              }

  -- An accepted block: as many rows as it says, each with a field for each column, and every place within the bytes.
  pub block-fits : BlockFits (length s) (length cols) (count_of s) rs
  unfolding inside
  block-fits = record { many = many; wide = λ i h. (row-fields i h).many; fit = fit }
    where
      fit : (i j : ℕ) → inside (length s) (get_or (get_or rs i []) j field.Null) ≡ true
      fit i j =
          there-or (λ (fs : List Field). inside (length s) (get_or fs j field.Null) ≡ true) rs i [] refl (λ h.
          there-or (λ (f : Field). inside (length s) f ≡ true) (get_or rs i []) j field.Null refl (λ l.
          within i h j (omega (arith, (row-fields i h).many))))

-- The question for a row and a column that an accepted block has is answered, with the stored field.
pub answered : (d s : List ℕ) (cols : List Column) (rs : List (List Field)) (r c : ℕ) → schema d ≡ found cols
    → block cols s ≡ found rs → r < length rs → c < length cols
    → (block_field d s r c ≡ found (get_or (get_or rs r []) c field.Null))
    × Shows cols s r c (get_or (get_or rs r []) c field.Null)
unfolding block_field asked need
answered d s cols rs r c e g h l =
    (rw (e, g, lt-ltb r (length rs) h, lt-ltb c (length cols) l), block-shows cols s rs g r h c l)

-- Every answer is the stored field of a row and a column that an accepted block has.
pub stored : (d s : List ℕ) (r c : ℕ) (f : Field) → block_field d s r c ≡ found f → Stored d s r c f
unfolding block_field asked
stored d s r c f e =
    let x = then_found (schema d) _ f e in
    let y = then_found (block x.0 s) _ f x.1.1 in
    let h = need-found (both (ltb r (length y.0)) (ltb c (length x.0))) 25 _ f y.1.1 in
    let row = ltb-true r (length y.0) (both_left (ltb r (length y.0)) (ltb c (length x.0)) h.0) in
    let column = ltb-true c (length x.0) (both_right (ltb r (length y.0)) (ltb c (length x.0)) h.0) in
    record {
      cols = x.0;
      read = x.1.0;
      rows = y.0;
      accepted = y.1.0;
      row = row;
      column = column;
      shows = rw (same-found h.1) at (block-shows x.0 s y.0 y.1.0 r row c column);
    }

-- a field of an accepted block lies within it
pub field-within : (d s : List ℕ) (r c : ℕ) (f : Field) → block_field d s r c ≡ found f → inside (length s) f ≡ true
field-within d s r c f e = (stored d s r c f e).shows.within
