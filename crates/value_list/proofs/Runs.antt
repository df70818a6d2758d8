-- One field more of a list: its three numbers go behind those that are there, the list's rest stays. A run is such
-- fields, each where the one before ends.
-- Assumes nothing.
use mathlib.Core.Path.{◌≡◌, refl, sym, ap, ap₂, ◌∙◌}
use mathlib.Core.Bool.{Bool, true, false}
use mathlib.Core.List.{List, [], ◌∷◌, ◌++◌, append_assoc, append-nil, flat_map}
use Prim.Native.Nat.{ℕ, suc, ◌+◌, ◌*◌, ◌≤◌, ◌<◌}
use native.Mathlib.Omega.{arith}
use native.Mathlib.Numerals.{add-one}
use lib.ListN.{length, get_or, take, drop, set, length-append}
use lib.Seq.{take-suc, take_all, take_at, drop-append-add, drop-drop, sets-eq, length-take-le}
use Rattle.common.specs.Outcome.{pick}
use Rattle.row_spec.specs.Page.{listed, numbers_of, written}
use Rattle.row_spec.specs.declared.Field.{Field}
use Rattle.row_spec.specs.declared.Field.TheVariants.{Null}
use Rattle.row_spec.specs.declared.Storage.{Storage}
use Rattle.row_laws.proofs.Pages.{numbers-length, numbers-append}
use Rattle.value_list.specs.declared.Cell.{Cell}
use Rattle.value_list.specs.declared.Run.{Run}
use Rattle.value_list.specs.Cell.{numbers_in, Holds, Puts, run_at, stored_as, Stand, Ran}

-- one field behind others
numbers_more : (done : List Field) (f : Field) → numbers_of (done ++ (f ∷ [])) ≡ numbers_of done ++ listed f
unfolding flat_map
numbers_more done f = numbers-append done (f ∷ []) ∙ ap (λ (l : List ℕ). numbers_of done ++ l) (append-nil (listed f))

-- three numbers put behind those of done
pub put-more : (k : ℕ) (c : Cell) (before : List ℕ) → k + 3 ≤ length before
    → Puts k c before (set (set (set before k c.kind) (k + 1) c.value) (k + 2) c.more)
unfolding written
put-more k c before room = record { more = more }
  where
    stored : ℕ → ℕ → List ℕ
    stored i j = set (set (set before k c.kind) i c.value) j c.more

    spread : stored (k + 1) (k + 2) ≡ take k before ++ numbers_in c ++ drop (k + 3) before
    spread =
        let second : k + 1 ≡ suc k = omega arith in
        let third : k + 2 ≡ suc (suc k) = omega arith in
        ap₂ stored second third ∙ sets-eq (numbers_in c) before k room

    more : (done : List Field) (base : List ℕ) (f : Field)
        → before ≡ written done base → k ≡ 3 * length done → numbers_in c ≡ listed f
        → stored (k + 1) (k + 2) ≡ written (done ++ (f ∷ [])) base
    more done base f w at e =
        let long : length (numbers_of done) ≡ k = numbers-length done ∙ sym at in
        let front : take k before ≡ numbers_of done = ap (take k) w ∙ take_at (numbers_of done) _ k long in
        let here : drop (k + 3) before ≡ drop (length (numbers_of done) + 3) before = rw long in
        let rest : drop (k + 3) before ≡ drop (k + 3) base =
        here ∙ ap (drop (length (numbers_of done) + 3)) w ∙ drop-append-add (numbers_of done) _ 3
        ∙ drop-drop 3 (length (numbers_of done)) base ∙ rw long in
        let longer : length (numbers_of (done ++ (f ∷ []))) ≡ k + 3 =
        numbers-length (done ++ (f ∷ [])) ∙ rw length-append (omega arith) in
        spread ∙ rw (front, e, rest, longer, numbers_more done f)

-- ---- a run
-- one of 64 storages
pub storage-there : (same : Bool) (m n : ℕ) → (same ≡ false → n ≤ 64) → m < n → pick same 0 m < 64
storage-there true m n h less = omega arith
storage-there false m n h less = let most = h refl in omega arith

module _ (s : List ℕ) (sts : List Storage) (r : Run) (n from k : ℕ) (before : List ℕ) where
  -- the first m fields of the run are in the list, and the next starts at at
  pub record Upto (m : ℕ) (list : List ℕ) (at : ℕ) : Type 0 where
    pub says : (place : ℕ → ℕ) (fs done : List Field) (base : List ℕ)
        → length fs ≡ n → place 0 ≡ from → Stand s sts r place fs
        → before ≡ written done base → k ≡ 3 * length done
        → (at ≡ place m) × (list ≡ written (done ++ take m fs) base)

  pub upto-none : Upto 0 before from
  upto-none =
      record {
        says = λ place fs done base len start stand w e.
            (sym start, w ∙ ap (λ (l : List Field). written l base) (sym (append-nil done)));
      }

  pub upto-more : (m at : ℕ) (list next : List ℕ) (c : Cell) → m < n → Upto m list at
      → Holds (run_at s r m (stored_as r sts m) at) c → Puts (k + 3 * m) c list next
      → Upto (m + 1) next c.next
  upto-more m at list next c less upto holds puts = record { says = says }
    where
      says : (place : ℕ → ℕ) (fs done : List Field) (base : List ℕ)
          → length fs ≡ n → place 0 ≡ from → Stand s sts r place fs
          → before ≡ written done base → k ≡ 3 * length done
          → (c.next ≡ place (m + 1)) × (next ≡ written (done ++ take (m + 1) fs) base)
      says place fs done base len start stand w e =
          let so = upto.says place fs done base len start stand w e in
          let here = stand m (omega arith) in
          let reads = ap (run_at s r m (stored_as r sts m)) so.0 ∙ here in
          let many : length (take m fs) ≡ m = length-take-le m fs (omega arith) in
          let long : k + 3 * m ≡ 3 * length (done ++ take m fs) = rw length-append (omega arith) in
          let put = puts.more (done ++ take m fs) base (get_or fs m Null) so.1 long (holds.numbers _ _ reads) in
          let one : (done ++ take m fs) ++ (get_or fs m Null ∷ []) ≡ done ++ take (suc m) fs =
          append_assoc done (take m fs) _
          ∙ ap (λ (l : List Field). done ++ l) (sym (take-suc fs m Null (omega arith))) in
          rw add-one (holds.ends _ _ reads, put ∙ ap (λ (l : List Field). written l base) one)

  pub upto_all : (list : List ℕ) (end : ℕ) → Upto n list end → Ran s sts r n from k before list end
  upto_all list end upto =
      record {
        says = λ place fs done base len start stand w e.
            let so = upto.says place fs done base len start stand w e in
            (so.0, so.1 ∙ ap (λ (l : List Field). written (done ++ l) base) (take_all n fs (omega arith)));
      }
