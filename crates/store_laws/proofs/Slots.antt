-- A sound store, slot by slot: where its forms lie, its entries, and their length together.
-- Assumes nothing.
use mathlib.Core.Path.{◌≡◌, refl, sym, ap, ◌∙◌}
use mathlib.Core.Logic.{◌⊎◌, inl, inr, ⊎_elim}
use mathlib.Core.Bool.{Bool, true, false}
use mathlib.Core.List.{List, [], ◌∷◌, map}
use Prim.Native.Nat.{ℕ, zero, suc, ◌+◌, ◌*◌, ◌≤◌, ◌<◌}
use native.Mathlib.Nat.{add-zero, zero-add, add-suc, suc-add, eq-or-lt_of_le, not-suc-le-zero, le_of_suc-le-suc}
use native.Mathlib.Numerals.{add-one}
use native.Mathlib.Omega.{arith}
use borrow.Author.Tests.{eq-eqb, ne_eqb, leb-true, le-leb}
use lib.ListN.{length, get_or, set, length-map, length-set}
use lib.Seq.{ext_get_or, get_or-set_same, get_or-set_other}
use lib.Dec.{leb}
use Rattle.common.specs.Outcome.{both, either, Outcome, refused, found, need}
use Rattle.common.specs.Lists.{from, every}
use Rattle.common.proofs.Lists.{both_left, both_right, every-all, every-each}
use Rattle.bitmap_spec.specs.Judge.{judge}
use Rattle.bitmap_spec.specs.Form.{form}
use Rattle.bitmap_spec.proofs.Window.{below_or}
use Rattle.bitmap_spec.proofs.Tally.{tally, tally-cons}
use Rattle.bitmap_laws.proofs.Accept.{judge-set}
use Rattle.bitmap_laws.proofs.Cuts.{length_from}
use Rattle.bitmap_laws.proofs.Length.{form-bound}
use Rattle.store_spec.specs.Store.{form_is, is_form, start_at, length_at, end_at, entry_at, slot_ok, apart, sound}
use Rattle.store_spec.specs.Store.{entries_of, entries, total, some}
use Rattle.store_laws.proofs.Same.{same_true, same_refl}
use Rattle.bitmap_laws.proofs.Parts.{part_length}

-- ---- two slots are one, or not
pub same_or : (j k : ℕ) → (j ≡ k) ⊎ (j ≡ k → ⊥)
same_or j k =
    ⊎_elim (λ a. inr (λ q. omega arith))
    (λ a. ⊎_elim (λ q. inl (sym q)) (λ q. inr (λ r. omega arith)) (eq-or-lt_of_le a)) (below_or j k)

-- ---- forms
no : {A : Type 0} (b : Bool) → b ≡ true → b ≡ false → A
no b p q = absurd (let z : ◌≡◌ {A = ℕ} 0 1 = cc in omega arith)

pub is-form : (l w : List ℕ) → judge w ≡ found l → w ≡ form l → is_form w ≡ true
unfolding is_form
is-form l w e q = rw e (rw (← q) (same_refl w))

pub form-few : (w : List ℕ) → is_form w ≡ true → length w ≤ 268390
unfolding is_form
form-few w h = go (judge w) refl h
  where
    go : (o : Outcome (List ℕ)) → judge w ≡ o → form_is w o ≡ true → length w ≤ 268390
    go (refused n) e q = no false q refl
    go (found l) e q =
        let p : w ≡ form l = same_true w (form l) q in omega (arith, ap length p, form-bound l (judge-set w l e))

-- ---- where forms lie, as facts
pub record Lies (n : ℕ) (dir buf : List ℕ) : Type 0 where
  pub inside : (k : ℕ) → k < n → 0 < length_at dir k → end_at dir k ≤ length buf
  pub forms : (k : ℕ) → k < n → 0 < length_at dir k → is_form (entry_at dir buf k) ≡ true
  pub clear : (k j : ℕ) → k < n → j < n → (k ≡ j → ⊥) → 0 < length_at dir k → 0 < length_at dir j
      → (end_at dir k ≤ start_at dir j) ⊎ (end_at dir j ≤ start_at dir k)

slot-in : (dir buf : List ℕ) (k : ℕ) → slot_ok dir buf k ≡ true → 0 < length_at dir k
    → (end_at dir k ≤ length buf) × (is_form (entry_at dir buf k) ≡ true)
unfolding slot_ok
slot-in dir buf k e h =
    let z : both (leb (end_at dir k) (length buf)) (is_form (entry_at dir buf k)) ≡ true =
    rw (ne_eqb (length_at dir k) 0 (λ q. omega arith)) at e in
    (leb-true _ _ (both_left _ _ z), both_right (leb (end_at dir k) (length buf)) _ z)

slot-make : (dir buf : List ℕ) (k : ℕ)
    → (0 < length_at dir k → (end_at dir k ≤ length buf) × (is_form (entry_at dir buf k) ≡ true)) → slot_ok dir buf k ≡ true
unfolding slot_ok
slot-make dir buf k h =
    ⊎_elim (λ l. rw (ne_eqb (length_at dir k) 0 (λ q. omega arith), le-leb _ _ (h l).0, (h l).1))
    (λ l. rw (eq-eqb (length_at dir k) 0 (omega arith))) (below_or 0 (length_at dir k))

apart_in : (dir : List ℕ) (k j : ℕ) → apart dir k j ≡ true → 0 < length_at dir k → 0 < length_at dir j
    → (end_at dir k ≤ start_at dir j) ⊎ (end_at dir j ≤ start_at dir k)
unfolding apart
apart_in dir k j e h g =
    go (leb (end_at dir k) (start_at dir j)) refl
    (rw (ne_eqb (length_at dir k) 0 (λ q. omega arith), ne_eqb (length_at dir j) 0 (λ q. omega arith)) at e)
  where
    go : (b : Bool) → leb (end_at dir k) (start_at dir j) ≡ b → either b (leb (end_at dir j) (start_at dir k)) ≡ true
        → (end_at dir k ≤ start_at dir j) ⊎ (end_at dir j ≤ start_at dir k)
    go true p q = inl (leb-true _ _ p)
    go false p q = inr (leb-true _ _ q)

apart-make : (dir : List ℕ) (k j : ℕ)
    → (0 < length_at dir k → 0 < length_at dir j → (end_at dir k ≤ start_at dir j) ⊎ (end_at dir j ≤ start_at dir k))
    → apart dir k j ≡ true
unfolding apart
apart-make dir k j h =
    ⊎_elim
    (λ l. ⊎_elim
    (λ m.
    rw (ne_eqb (length_at dir k) 0 (λ q. omega arith), ne_eqb (length_at dir j) 0 (λ q. omega arith))
    (⊎_elim (λ a. rw (le-leb (end_at dir k) (start_at dir j) a))
    (λ a. rw (le-leb (end_at dir j) (start_at dir k) a) (last (leb (end_at dir k) (start_at dir j)))) (h l m)))
    (λ m. rw (ne_eqb (length_at dir k) 0 (λ q. omega arith), eq-eqb (length_at dir j) 0 (omega arith)))
    (below_or 0 (length_at dir j)))
    (λ l. rw (eq-eqb (length_at dir k) 0 (omega arith))) (below_or 0 (length_at dir k))
  where
    last : (b : Bool) → either b true ≡ true
    last true = refl
    last false = refl

pub sound-lies : (n : ℕ) (dir buf : List ℕ) → sound n dir buf ≡ true → Lies n dir buf
unfolding sound
sound-lies n dir buf e =
    let s = both_left (every (slot_ok dir buf) (from 0 n)) _ e in
    let t = both_right (every (slot_ok dir buf) (from 0 n)) _ e in
    record {
      inside = λ k h l. (slot-in dir buf k (every-each (slot_ok dir buf) n k s h) l).0;
      forms = λ k h l. (slot-in dir buf k (every-each (slot_ok dir buf) n k s h) l).1;
      clear = λ k j h g d lk lj. ⊎_elim
          (λ a.
          ⊎_elim inr inl
          (apart_in dir j k (every-each (apart dir j) j k (every-each (λ k. every (apart dir k) (from 0 k)) n j t g) a) lj lk))
          (λ a. apart_in dir k j
          (every-each (apart dir k) k j (every-each (λ k. every (apart dir k) (from 0 k)) n k t h) (less k j d a)) lk lj)
          (below_or k j);
    }
  where
    less : (k j : ℕ) → (k ≡ j → ⊥) → j ≤ k → j < k
    less k j d a = ⊎_elim (λ q. absurd (d (sym q))) (λ q. q) (eq-or-lt_of_le a)

pub lies-sound : (n : ℕ) (dir buf : List ℕ) → Lies n dir buf → sound n dir buf ≡ true
unfolding sound
lies-sound n dir buf s =
    rw
    (every-all (slot_ok dir buf) 0 n
    (λ i l. rw (zero-add i) (slot-make dir buf i (λ h. (s.inside i l h, s.forms i l h)))))
    (every-all (λ k. every (apart dir k) (from 0 k)) 0 n
    (λ k l.
    rw (zero-add k)
    (every-all (apart dir k) 0 k
    (λ j m. rw (zero-add j) (apart-make dir k j (s.clear k j l (omega arith) (λ q. omega arith)))))))

-- ---- the meaning
pub entries-bad : (n : ℕ) (dir buf : List ℕ) → length dir ≡ 2 * n → sound n dir buf ≡ false → entries n dir buf ≡ refused 42
unfolding entries need
entries-bad n dir buf e q = rw (eq-eqb _ _ e, q)

pub entries-is : (n : ℕ) (dir buf : List ℕ) → length dir ≡ 2 * n → Lies n dir buf
    → entries n dir buf ≡ found (entries_of n dir buf)
unfolding entries need
entries-is n dir buf e q = rw (eq-eqb _ _ e, lies-sound n dir buf q)

-- ---- entries
pub many-entries : (n : ℕ) (dir buf : List ℕ) → length (entries_of n dir buf) ≡ n
unfolding entries_of
many-entries n dir buf = length-map (from 0 n) (entry_at dir buf) ∙ length_from 0 n

map-from : (f : ℕ → List ℕ) (a n k : ℕ) → k < n → get_or (map f (from a n)) k [] ≡ f (a + k)
unfolding from
map-from f a zero k h = absurd (not-suc-le-zero h)
map-from f a (suc n) zero h = rw (add-zero a)
map-from f a (suc n) (suc k) h = map-from f (suc a) n k (le_of_suc-le-suc h) ∙ rw (suc-add a k, add-suc a k)

pub entry-is : (n : ℕ) (dir buf : List ℕ) (k : ℕ) → k < n → get_or (entries_of n dir buf) k [] ≡ entry_at dir buf k
unfolding entries_of
entry-is n dir buf k h = map-from (entry_at dir buf) 0 n k h ∙ rw (zero-add k)

pub entry-long : (n : ℕ) (dir buf : List ℕ) (k : ℕ) → Lies n dir buf → k < n
    → length (entry_at dir buf k) ≡ length_at dir k
unfolding entry_at end_at
entry-long n dir buf k s h =
    ⊎_elim (λ l. part_length buf (start_at dir k) (length_at dir k) (s.inside k h l))
    (λ l. let z : length_at dir k ≡ 0 = omega arith in rw z) (below_or 0 (length_at dir k))

pub some-true : (w : List ℕ) → 0 < length w → some w ≡ true
some-true [] h = absurd (not-suc-le-zero h)
some-true (x ∷ xs) h = refl

pub some-false : (w : List ℕ) → length w ≡ 0 → some w ≡ false
some-false [] h = refl
some-false (x ∷ xs) h = absurd (omega arith)

-- one entry changed
pub entries-set : (n : ℕ) (dir buf dir' buf' : List ℕ) (k : ℕ) (w : List ℕ) → k < n
    → ((j : ℕ) → j < n → (j ≡ k → ⊥) → entry_at dir' buf' j ≡ entry_at dir buf j) → entry_at dir' buf' k ≡ w
    → entries_of n dir' buf' ≡ set (entries_of n dir buf) k w
entries-set n dir buf dir' buf' k w h other own =
    ext_get_or [] (entries_of n dir' buf') (set (entries_of n dir buf) k w)
    (many-entries n dir' buf' ∙ sym (length-set (entries_of n dir buf) k w ∙ many-entries n dir buf))
    (λ j l. let m : j < n = rw (many-entries n dir' buf') at l in
    entry-is n dir' buf' j m ∙ go j m (same_or j k))
  where
    go : (j : ℕ) → j < n → (j ≡ k) ⊎ (j ≡ k → ⊥) → entry_at dir' buf' j ≡ get_or (set (entries_of n dir buf) k w) j []
    go j m (inl q) = rw q (own ∙ sym (get_or-set_same (entries_of n dir buf) k w [] (rw (many-entries n dir buf) h)))
    go j m (inr q) = other j m q ∙ sym (get_or-set_other (entries_of n dir buf) k j w [] q ∙ entry-is n dir buf j m)

-- ---- their length together
pub total-set : (es : List (List ℕ)) (k : ℕ) (w : List ℕ) → k < length es
    → total (set es k w) + length (get_or es k []) ≡ total es + length w
unfolding total
total-set [] k w h = absurd (not-suc-le-zero h)
total-set (e ∷ es) zero w h = omega arith
total-set (e ∷ es) (suc k) w h = omega (arith, total-set es k w (le_of_suc-le-suc h))

total-map : (f : ℕ → List ℕ) (g : ℕ → ℕ) (k n : ℕ) → ((i : ℕ) → i < n → length (f (k + i)) ≡ g (k + i))
    → total (map f (from k n)) ≡ tally g k n
unfolding total from tally
total-map f g k zero h = refl
total-map f g k (suc n) h =
    let a : length (f k) ≡ g k = rw (add-zero k) at (h 0 (omega arith)) in
    omega (
      arith,
      a,
      total-map f g (suc k) n (λ i l. rw (suc-add k i, ← add-suc k i) (h (suc i) (omega arith))),
      tally-cons g k n,
    )

pub total-is : (n : ℕ) (dir buf : List ℕ) → Lies n dir buf → total (entries_of n dir buf) ≡ tally (length_at dir) 0 n
unfolding entries_of
total-is n dir buf s =
    total-map (entry_at dir buf) (length_at dir) 0 n (λ i l. rw (zero-add i) (entry-long n dir buf i s l))

-- ---- a sum
pub tally-more : (f : ℕ → ℕ) (k t x : ℕ) → t ≡ tally f 0 k → x ≡ f k → t + x ≡ tally f 0 (k + 1)
unfolding tally
tally-more f k t x e q = rw (add-one k, zero-add k, e, q)

pub tally-none : (f : ℕ → ℕ) → 0 ≡ tally f 0 0
unfolding tally
tally-none f = refl
