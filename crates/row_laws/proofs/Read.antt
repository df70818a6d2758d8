-- What a schema that was read says: its columns are 1 to 64, its only refusal is 20, and the struct that holds it gives
-- it back. Assumes nothing.
use Rattle.std.specs.Prelude.{Result, Ok, Err, Option, Some, None}
use mathlib.Core.Path.{◌≡◌, refl, sym, ap, ◌∙◌}
use mathlib.Core.Bool.{Bool, true, false}
use mathlib.Core.List.{List, [], ◌∷◌, ◌++◌}
use Prim.Native.Nat.{ℕ, zero, suc, ◌+◌, ◌-◌, ◌≤◌}
use native.Mathlib.Omega.{arith}
use borrow.Author.Tests.{leb-true}
use lib.ListN.{length, drop, length-append, length-drop}
use lib.Seq.{take_at}
use lib.Dec.{leb}
use Rattle.common.specs.Outcome.{both, Outcome, refused, found, need}
use Rattle.common.proofs.Lists.{both_left, both_right}
use Rattle.common.proofs.Outcomes.{clash, same-found}
use Rattle.row_spec.specs.Varint.{varint_at, on_varint}
use Rattle.row_spec.specs.Schema.{column_at, columns_from, schema, held, blanks, columns_of, on_column}
use Rattle.row_spec.specs.declared.Varint.{Varint}
use Rattle.row_spec.specs.declared.ReadFault.{ReadFault}
use Rattle.row_spec.specs.declared.ReadFault.TheVariants.{CutShort, IllFormed}
use Rattle.row_spec.specs.declared.Column.{Column}
use Rattle.row_spec.specs.declared.Schema.{Schema}
use Rattle.row_spec.specs.declared.Read.{Read}

-- a rule that let an outcome through held, and one that refused gives its own number or leaves it to the rest
pub need-found : {A : Type 0} (t : Bool) (n : ℕ) (o : Outcome A) (a : A) → need t n o ≡ found a
    → (t ≡ true) × (o ≡ found a)
unfolding need
need-found true n o a e = (refl, e)
need-found false n o a e = absurd (let z : ◌≡◌ {A = ℕ} 0 1 = cc in omega arith)

pub need-refused : {A : Type 0} (t : Bool) (n : ℕ) (o : Outcome A) (m : ℕ) → need t n o ≡ refused m
    → ((k : ℕ) → o ≡ refused k → k ≡ n) → m ≡ n
unfolding need
need-refused true n o m e f = f m e
need-refused false n o m e f = cc

columns-length : (s : List ℕ) (k at : ℕ) (done cols : List Column) → columns_from s k at done ≡ found cols
    → length cols ≡ length done + k
unfolding columns_from
columns-length s zero at done cols e = let h = (need-found _ _ _ _ e).1 in let q : done ≡ cols = cc in
    omega (arith, ap length q)
columns-length s (suc k) at done cols e =
    by-column (λ c next q. columns-length s k next (done ++ (c ∷ [])) cols q) (column_at s at) e
  where
    by-column : ((c : Column) (next : ℕ) → columns_from s k next (done ++ (c ∷ [])) ≡ found cols
        → length cols ≡ length (done ++ (c ∷ [])) + k)
        → (r : Option (Read Column))
        → on_column r (refused 20) (λ c next. columns_from s k next (done ++ (c ∷ []))) ≡ found cols
        → length cols ≡ length done + suc k
    by-column f None q = absurd (let z : ◌≡◌ {A = ℕ} 0 1 = cc in omega arith)
    by-column f (Some r) q = omega (arith, f r.value r.next q, length-append done (r.value ∷ []))

columns-refused : (s : List ℕ) (k at : ℕ) (done : List Column) (m : ℕ) → columns_from s k at done ≡ refused m → m ≡ 20
unfolding columns_from
columns-refused s zero at done m e =
    need-refused _ _ _ _ e (λ k q. absurd (let z : ◌≡◌ {A = ℕ} 0 1 = cc in omega arith))
columns-refused s (suc k) at done m e =
    by-column (λ c next q. columns-refused s k next (done ++ (c ∷ [])) m q) (column_at s at) e
  where
    by-column : ((c : Column) (next : ℕ) → columns_from s k next (done ++ (c ∷ [])) ≡ refused m → m ≡ 20)
        → (r : Option (Read Column))
        → on_column r (refused 20) (λ c next. columns_from s k next (done ++ (c ∷ []))) ≡ refused m → m ≡ 20
    by-column f None q = cc
    by-column f (Some r) q = f r.value r.next q

-- "columns in a schema: 1 to 64"
pub schema-length : (d : List ℕ) (cols : List Column) → schema d ≡ found cols → (1 ≤ length cols) × (length cols ≤ 64)
unfolding schema
schema-length d cols e = by_count (varint_at d 0) e
  where
    by_count : (r : Result Varint ReadFault)
        → on_varint r (refused 20) (refused 20)
        (λ n next. need (both (leb 1 n) (leb n 64)) 20 (columns_from d n next [])) ≡ found cols
        → (1 ≤ length cols) × (length cols ≤ 64)
    by_count (Err CutShort) q = absurd (let z : ◌≡◌ {A = ℕ} 0 1 = cc in omega arith)
    by_count (Err IllFormed) q = absurd (let z : ◌≡◌ {A = ℕ} 0 1 = cc in omega arith)
    by_count (Ok r) q =
        let n = r.number in
        let next = r.next in
        let h = need-found _ _ _ _ q in
        let l = columns-length d n next [] cols h.1 in
        let low = leb-true 1 n (both_left (leb 1 n) (leb n 64) h.0) in
        let high = leb-true n 64 (both_right (leb 1 n) (leb n 64) h.0) in
        (omega arith, omega arith)

-- "All faults are 20"
pub schema-refused : (d : List ℕ) (m : ℕ) → schema d ≡ refused m → m ≡ 20
unfolding schema
schema-refused d m e = by_count (varint_at d 0) e
  where
    by_count : (r : Result Varint ReadFault)
        → on_varint r (refused 20) (refused 20)
        (λ n next. need (both (leb 1 n) (leb n 64)) 20 (columns_from d n next [])) ≡ refused m → m ≡ 20
    by_count (Err CutShort) q = cc
    by_count (Err IllFormed) q = cc
    by_count (Ok r) q = need-refused _ _ _ _ q (λ k p. columns-refused d r.number r.next [] k p)

-- what a schema that was read says
pub record Known (d : List ℕ) (x : Schema) : Type 0 where
  pub is : schema d ≡ found (columns_of x)
  pub some : 1 ≤ x.count
  pub most : x.count ≤ 64
  pub room : length x.columns ≡ 64
  pub count : length (columns_of x) ≡ x.count

module _ (d : List ℕ) where
  pub read-refused : (n : ℕ) → refused n ≡ held (schema d) → schema d ≡ refused n
  unfolding held
  read-refused n e = by-case (schema d) e
    where
      by-case : (o : Outcome (List Column)) → refused n ≡ held o → o ≡ refused n
      by-case (refused m) q = cc
      by-case (found cols) q = clash (cc)

  pub read_found : (x : Schema) → found x ≡ held (schema d) → Known d x
  unfolding held
  read_found x e = by-case (schema d) refl e
    where
      by-case : (o : Outcome (List Column)) → schema d ≡ o → found x ≡ held o → Known d x
      by-case (refused n) p q = clash (cc)
      by-case (found cols) p q =
          let l = schema-length d cols p in
          let same = same-found q in
          let c : x.count ≡ length cols = ap (λ (w : Schema). w.count) same in
          let h : x.columns ≡ cols ++ drop (length cols) blanks = ap (λ (w : Schema). w.columns) same in
          let t : columns_of x ≡ cols = rw (c, h) (take_at cols (drop (length cols) blanks) (length cols) refl) in
          let b : length (drop (length cols) blanks) ≡ 64 - length cols = length-drop (length cols) blanks in
          let r : length x.columns ≡ 64 = ap length h ∙ length-append cols (drop (length cols) blanks) ∙ omega arith in
          record {
            is = p ∙ ap found (sym t);
            some = omega arith;
            most = omega arith;
            room = r;
            count =
                ap length t ∙ sym c;
          }
