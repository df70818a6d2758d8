-- Of accepted rows: there are as many as were to be read, each starts where the one before ends, which is its offset,
-- and each field stands where the fields before it end.
-- Assumes nothing.
use Rattle.std.specs.Prelude.{Ok, Err}
use mathlib.Core.Path.{◌≡◌, refl, sym, ap, ◌∙◌}
use mathlib.Core.Bool.{Bool, true, false}
use mathlib.Core.List.{List, [], ◌∷◌, ◌++◌}
use Prim.Native.Nat.{ℕ, zero, suc, ◌+◌, ◌*◌, ◌≤◌, ◌<◌}
use native.Mathlib.Omega.{arith}
use native.Mathlib.Nat.{not-suc-le-zero}
use native.Mathlib.Numerals.{add-one}
use borrow.Author.Tests.{eqb-true, eqb-false}
use lib.ListN.{length, get_or, take, drop, length-append, get_or-eq_default}
use lib.Dec.{leb, eqb}
use Rattle.common.specs.Outcome.{pick, Outcome, found}
use Rattle.common.specs.Bytes.{ceil8, little_at, low_spare_zero}
use Rattle.row_spec.specs.Schema.{blank_column}
use Rattle.row_spec.specs.Read.{read}
use Rattle.row_spec.specs.Value.{Value}
use Rattle.row_spec.specs.Block.{Row, field_at, fields, row, rows}
use Rattle.row_spec.specs.declared.Column.{Column}
use Rattle.row_spec.specs.declared.Field.{Field}
use Rattle.row_spec.specs.declared.Field.TheVariants.{Null}
use Rattle.row_spec.specs.declared.ReadFault.TheVariants.{CutShort, IllFormed}
use Rattle.common.proofs.Outcomes.{clash, same-found, then_found}
use Rattle.row_laws.specs.Shown.{end_of, field_start, row_start}
use Rattle.row_laws.proofs.Read.{need-found}
use Rattle.row_laws.proofs.Rows.{kept_next, fields-cut, fields-bad, fields-more, fields-end}

before : (a b : ℕ) → a < suc b → (a ≡ b → ⊥) → a < b
before a b p q = omega arith

-- what holds of each element of a list, and of one more at its end
kept-each : {A : Type 0} (P : ℕ → A → Type 0) (d : A) (l : List A) (x : A) (i : ℕ) → length l ≡ i
    → ((m : ℕ) → m < i → P m (get_or l m d)) → P i x
    → (m : ℕ) → m < suc i → P m (get_or (l ++ (x ∷ [])) m d)
kept-each P d l x i len h g m less = rw (kept_next l x m d) (by-test (eqb (length l) m) refl)
  where
    by-test : (t : Bool) → eqb (length l) m ≡ t → P m (pick t x (get_or l m d))
    by-test true q = let k : i ≡ m = sym len ∙ eqb-true (length l) m q in rw (← k) g
    by-test false q = h m (before m i less (λ p. eqb-false (length l) m q (len ∙ sym p)))

-- ---- the fields of a row
module _ (s : List ℕ) (cols : List Column) (base : ℕ) where
  -- what is read as field j, where the fields before it end
  abbrev field_here : ℕ → Value
  field_here j = field_at s base j (get_or cols j blank_column) (field_start s cols base j)

  -- field j is f, and the next starts where it ends
  abbrev pub Stands : ℕ → Field → Type 0
  Stands j f = field_here j ≡ Ok (read f (field_start s cols base (suc j)))

  pub record Fields (i : ℕ) (fs : List Field) : Type 0 where
    pub many : length fs ≡ i
    pub each : (j : ℕ) → j < i → Stands j (get_or fs j Null)

  none : Fields 0 []
  none = record { many = refl; each = λ j l. absurd (not-suc-le-zero l) }

  one_field : (i : ℕ) (fs : List Field) (f : Field) → Fields i fs → Stands i f → Fields (suc i) (fs ++ (f ∷ []))
  one_field i fs f h g =
      record {
        many = rw length-append (omega (arith, h.many));
        each = kept-each Stands Null fs f i h.many h.each g;
      }

  field-ends : (i : ℕ) (f : Field) (next : ℕ) → field_here i ≡ Ok (read f next) → field_start s cols base (suc i) ≡ next
  unfolding field_start
  field-ends i f next p = ap end_of p

  -- all of them, and where the last ends
  abbrev pub RowStands : Row → Type 0
  RowStands x = Fields (length cols) x.fields × (x.next ≡ field_start s cols base (length cols))

  -- the fields from field i on, after those of done
  abbrev rest : ℕ → List Field → Outcome Row
  rest i done = fields s base i (drop i cols) (field_start s cols base i) done

  fields-stand : (k i : ℕ) (done : List Field) (x : Row) → i + k ≡ length cols → Fields i done → rest i done ≡ found x
      → RowStands x
  fields-stand zero i done x len h e =
      let a : i ≡ length cols = omega arith in
      let p = fields-end s base i (field_start s cols base i) cols done (omega arith) in
      let q : record { fields = done; next = field_start s cols base i } ≡ x = same-found (sym p ∙ e) in
      let fs : done ≡ x.fields = ap (λ (y : Row). y.fields) q in
      (rw (a, fs) at h, sym (ap (λ (y : Row). y.next) q) ∙ ap (field_start s cols base) a)
  fields-stand (suc k) i done x len h e =
      by_value (λ more g q. fields-stand k (suc i) more x (omega arith) g q) (field_here i) refl
    where
      at : ℕ
      at = field_start s cols base i

      less : i < length cols
      less = omega arith

      by_value : ((more : List Field) → Fields (suc i) more → rest (suc i) more ≡ found x → RowStands x)
          → (v : Value) → field_here i ≡ v → RowStands x
      by_value g (Err CutShort) p = let q = fields-cut s base i at cols done blank_column less p in clash (cc)
      by_value g (Err IllFormed) p = let q = fields-bad s base i at cols done blank_column less p in clash (cc)
      by_value g (Ok r) p =
          let f = r.value in
          let next = r.next in
          let w : field_start s cols base (suc i) ≡ next = field-ends i f next p in
          let q = fields-more s base i at cols done blank_column less f next p in
          g (done ++ (f ∷ [])) (one_field i done f h (p ∙ ap (λ (n : ℕ). Ok (read f n)) (sym w)))
          (rw w (rw add-one at (sym q ∙ e)))

  pub row-stands : (x : Row) → row s cols base ≡ found x → RowStands x
  unfolding row field_start
  row-stands x e =
      let room = (need-found (leb (base + ceil8 (length cols)) (length s)) 24 _ x e).1 in
      let h = (need-found (low_spare_zero s base (length cols)) 24 _ x room).1 in
      fields-stand (length cols) 0 [] x (omega arith) none h

-- ---- the rows of a block
module _ (s : List ℕ) (cols : List Column) (end : ℕ) where
  -- where row m starts, and what is read there
  abbrev start : ℕ → ℕ
  start m = row_start (take end s) cols m

  abbrev row_here : ℕ → Outcome Row
  row_here m = row (take end s) cols (start m)

  -- row m starts at its offset, where the rows before it end, and has these fields
  abbrev Starts : ℕ → List Field → Type 0
  Starts m fs = (little_at s (end + m * 4) 4 ≡ start m) × ((x : Row) × ((row_here m ≡ found x) × (x.fields ≡ fs)))

  record Laid (n : ℕ) (rs : List (List Field)) : Type 0 where
    many : length rs ≡ n
    each : (m : ℕ) → m < n → Starts m (get_or rs m [])

  one-row : (i : ℕ) (done : List (List Field)) (x : Row) → Laid i done → little_at s (end + i * 4) 4 ≡ start i
      → row_here i ≡ found x → Laid (suc i) (done ++ (x.fields ∷ []))
  one-row i done x h o e =
      record {
        many = rw length-append (omega (arith, h.many));
        each = kept-each Starts [] done x.fields i h.many h.each (o, (x, (e, refl)));
      }

  row_ends : (i : ℕ) (x : Row) → row_here i ≡ found x → x.next ≡ start (suc i)
  unfolding row_start
  row_ends i x e = (row-stands (take end s) cols (start i) x e).1

  -- n rows, the last of which ends at end
  abbrev AllLaid : ℕ → List (List Field) → Type 0
  AllLaid n rs = Laid n rs × (start n ≡ end)

  laid : (i k at : ℕ) (done rs : List (List Field)) → at ≡ start i → Laid i done
      → rows s cols end i k at done ≡ found rs
      → AllLaid (i + k) rs
  unfolding rows
  laid i zero at done rs w h e =
      let n = need-found (eqb at end) 23 (found done) rs e in
      let a : i ≡ i + 0 = omega arith in
      (rw (same-found n.1, a) at h, rw (← a) (sym w ∙ eqb-true at end n.0))
  laid i (suc k) at done rs w h e =
      let n = need-found (eqb (little_at s (end + i * 4) 4) at) 23 _ rs e in
      let r = then_found (row (take end s) cols at) _ rs n.1 in
      let here : row_here i ≡ found r.0 = rw (← w) r.1.0 in
      let more = one-row i done r.0 h (eqb-true _ at n.0 ∙ w) here in
      let l = laid (suc i) k r.0.next (done ++ (r.0.fields ∷ [])) rs (row_ends i r.0 here) more r.1.1 in
      let a : suc i + k ≡ i + suc k = omega arith in
      rw a at l

  module _ (n : ℕ) (rs : List (List Field)) (e : rows s cols end 0 n 0 [] ≡ found rs) where
    all : AllLaid n rs
    unfolding row_start
    all =
        let l = laid 0 n 0 [] rs refl (record { many = refl; each = λ m l. absurd (not-suc-le-zero l) }) e in
        let a : 0 + n ≡ n = omega arith in
        rw a at l

    pub rows-many : length rs ≡ n
    rows-many = all.0.many

    -- a row that is not there has no field
    pub rows_none : (r k : ℕ) → n ≤ r → Null ≡ get_or (get_or rs r []) k Null
    rows_none r k h = rw (get_or-eq_default rs [] (let l : length rs ≤ r = omega (arith, rows-many) in l))

    -- each offset is where the rows before end, and the last row ends at end
    pub rows-offset : (r : ℕ) → r < n → little_at s (end + r * 4) 4 ≡ start r
    rows-offset r h = (all.0.each r h).0

    pub rows_last : start n ≡ end
    rows_last = all.1

    pub rows-here : (r : ℕ) → r < n → (x : Row) × ((row_here r ≡ found x) × (x.fields ≡ get_or rs r []))
    rows-here r h = (all.0.each r h).1

    pub rows_start : (r : ℕ) → r < n
        → (x : Row) × ((row (take end s) cols (little_at s (end + r * 4) 4) ≡ found x) × (x.fields ≡ get_or rs r []))
    rows_start r h = rw (rows-offset r h) (rows-here r h)
