-- Fields one after the other in a list: each goes behind those that are there. A listing of fields of which something
-- holds lists those of which more holds.
-- Assumes nothing.
use mathlib.Core.Path.{◌≡◌, refl, sym, ap, ◌∙◌}
use mathlib.Core.List.{List, [], ◌∷◌, ◌++◌, flat_map}
use Prim.Native.Nat.{ℕ, suc, ◌+◌, ◌*◌, ◌<◌}
use native.Mathlib.Omega.{arith}
use native.Mathlib.Numerals.{add-one}
use lib.ListN.{length, get_or, take, drop, replicate}
use Rattle.row_laws.proofs.Pages.{numbers-length}
use lib.Seq.{take-suc, take_all, length-take-le}
use Rattle.row_spec.specs.Page.{listed, numbers_of, written}
use Rattle.row_spec.specs.declared.Field.{Field}
use Rattle.row_spec.specs.declared.Field.TheVariants.{Null}
use Rattle.value_list.specs.declared.Cell.{Cell}
use Rattle.value_list.specs.Cell.{numbers_in, Puts}
use Rattle.bucket_list.specs.declared.Rows.{Rows}
use Rattle.bucket_list.specs.Listed.{Lists, live_at, RowIs, RowsListed}

module _ (P : ℕ → Field → Type 0) (n : ℕ) (before : List ℕ) where
  -- the first m of n fields are in the list
  pub record Upto (m : ℕ) (list : List ℕ) : Type 0 where
    pub says : (fs : List Field) → length fs ≡ n → ((k : ℕ) → k < n → P k (get_or fs k Null))
        → list ≡ written (take m fs) before

  pub upto-none : Upto 0 before
  unfolding written flat_map
  upto-none = record { says = λ fs len is. refl }

  pub upto-more : (m : ℕ) (list next : List ℕ) (c : Cell) → m < n → Upto m list
      → ((f : Field) → P m f → numbers_in c ≡ listed f) → Puts (3 * m) c list next → Upto (m + 1) next
  upto-more m list next c less upto numbers puts = record { says = says }
    where
      says : (fs : List Field) → length fs ≡ n → ((k : ℕ) → k < n → P k (get_or fs k Null))
          → next ≡ written (take (m + 1) fs) before
      says fs len is =
          let many : length (take m fs) ≡ m = length-take-le m fs (omega arith) in
          let put =
          puts.more (take m fs) before (get_or fs m Null) (upto.says fs len is) (omega arith)
          (numbers (get_or fs m Null) (is m less)) in
          put ∙ ap (λ (l : List Field). written l before) (rw add-one (sym (take-suc fs m Null (omega arith))))

  pub upto_all : (list : List ℕ) → Upto n list → Lists P n before list
  upto_all list upto =
      record {
        says = λ fs len is.
            upto.says fs len is ∙ ap (λ (l : List Field). written l before) (take_all n fs (omega arith));
      }

  -- no field
  pub lists-none : n ≡ 0 → Lists P n before before
  unfolding written flat_map
  lists-none none = record { says = λ fs len is. by-fields fs (len ∙ none) }
    where
      by-fields : (fs : List Field) → length fs ≡ 0 → before ≡ written fs before
      by-fields [] e = refl
      by-fields (f ∷ fs) e = absurd (omega arith)

  -- what holds of each field lists those of which more holds
  pub lists-more : (Q : ℕ → Field → Type 0) (after : List ℕ)
      → ((m : ℕ) (f : Field) → m < n → Q m f → P m f) → Lists P n before after → Lists Q n before after
  lists-more Q after more lists =
      record { says = λ fs len is. lists.says fs len (λ m less. more m (get_or fs m Null) less (is m less)) }

pub rows_more : (P Q : ℕ → Field → Type 0) (s : List ℕ) (x : Rows) (before after : List ℕ)
    → ((j : ℕ) (f : Field) → Q j f → P j f) → RowsListed P s x before after → RowsListed Q s x before after
rows_more P Q s x before after more lists =
    lists-more (RowIs P s x) x.given before (RowIs Q s x) after
    (λ m f less row. (row.0, λ e. more (live_at s x m) f (row.1 e))) lists

-- ---- Null is three zeros
nulls-zeros : (fs : List Field) → ((m : ℕ) → m < length fs → get_or fs m Null ≡ Null)
    → numbers_of fs ≡ replicate (3 * length fs) 0
unfolding listed flat_map
nulls-zeros [] h = refl
nulls-zeros (f ∷ fs) h =
    let first : f ≡ Null = h 0 (omega arith) in
    let three : 3 * suc (length fs) ≡ suc (suc (suc (3 * length fs))) = omega arith in
    rw (first, three, nulls-zeros fs (λ m l. h (suc m) (omega arith)))

pub nulls-listed : (n : ℕ) (before zeros : List ℕ) → zeros ≡ replicate (3 * n) 0
    → Lists (λ m f. f ≡ Null) n before (zeros ++ drop (3 * n) before)
unfolding written
nulls-listed n before zeros z = record {
  says = λ fs len is.
      let e = nulls-zeros fs (λ m l. is m (rw len at l)) in
      rw (z, numbers-length fs, e, len);
}
