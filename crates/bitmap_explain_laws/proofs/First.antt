-- The first at fault: the offset, the descriptor, the container that is named is wrong, those before it are right,
-- and no other is so.
-- Assumes nothing.
use mathlib.Core.Path.{◌≡◌, refl, sym, ap, ◌∙◌}
use mathlib.Core.Bool.{Bool, true, false}
use mathlib.Core.List.{List, [], ◌∷◌}
use Prim.Native.Nat.{ℕ, zero, suc, ◌+◌, ◌-◌, ◌*◌, ◌%◌, ◌^◌, ◌<◌}
use native.Mathlib.Nat.{zero-add, add-zero, add-suc, suc-add, add_assoc, not-suc-le-zero, le_of_suc-le-suc}
use native.Mathlib.Omega.{arith}
use lib.ListN.{length, get_or, take, drop}
use lib.Dec.{leb, ltb}
use borrow.Author.Tests.{eq-eqb}
use Rattle.common.specs.Lists.{from, rising, sum, every}
use Rattle.common.specs.Outcome.{pick, both}
use Rattle.bitmap_spec.specs.Bits.{spare_zero}
use Rattle.bitmap_spec.proofs.Window.{spare-none, spare-some}
use Rattle.bitmap_spec.specs.Judge.{size_of, container_ok, containers_ok}
use Rattle.bitmap_explain_spec.specs.Explain.{risen, first_over, well_formed, spare_byte, container_at}

pub not-both : {A : Type 0} → true ≡ false → A
not-both e = absurd (let z : ◌≡◌ {A = ℕ} 0 1 = cc in omega arith)

-- ---- offsets

-- those before the first wrong one rise
pub risen-take : (n lo : ℕ) (l : List ℕ) → rising n lo (take (risen n lo l) l) ≡ true
unfolding rising risen
risen-take n lo [] = refl
risen-take n lo (x ∷ xs) = go (risen-take n (suc x) xs) (both (leb lo x) (ltb x n)) refl
  where
    go : rising n (suc x) (take (risen n (suc x) xs) xs) ≡ true → (b : Bool) → both (leb lo x) (ltb x n) ≡ b
        → rising n lo (take (pick b (suc (risen n (suc x) xs)) 0) (x ∷ xs)) ≡ true
    go ih true e = rw e ih
    go ih false e = refl

-- with it they do not
pub risen-next : (n lo : ℕ) (l : List ℕ) → rising n lo l ≡ false → rising n lo (take (suc (risen n lo l)) l) ≡ false
unfolding rising risen
risen-next n lo [] e = e
risen-next n lo (x ∷ xs) e = go (risen-next n (suc x) xs) (both (leb lo x) (ltb x n)) refl e
  where
    go : (rising n (suc x) xs ≡ false → rising n (suc x) (take (suc (risen n (suc x) xs)) xs) ≡ false)
        → (b : Bool) → both (leb lo x) (ltb x n) ≡ b → both b (rising n (suc x) xs) ≡ false
        → rising n lo (take (suc (pick b (suc (risen n (suc x) xs)) 0)) (x ∷ xs)) ≡ false
    go ih true q e = rw q (ih e)
    go ih false q e = rw q

-- and there is no other such place
pub risen-is : (n lo : ℕ) (l : List ℕ) (j : ℕ) → rising n lo (take j l) ≡ true → rising n lo (take (suc j) l) ≡ false
    → risen n lo l ≡ j
unfolding rising risen
risen-is n lo [] j h g = not-both g
risen-is n lo (x ∷ xs) zero h g = go (both (leb lo x) (ltb x n)) g
  where
    go : (b : Bool) → both b true ≡ false → pick b (suc (risen n (suc x) xs)) 0 ≡ 0
    go true g = not-both g
    go false g = refl
risen-is n lo (x ∷ xs) (suc j) h g = go (risen-is n (suc x) xs j) (both (leb lo x) (ltb x n)) h g
  where
    go : (rising n (suc x) (take j xs) ≡ true → rising n (suc x) (take (suc j) xs) ≡ false → risen n (suc x) xs ≡ j)
        → (b : Bool) → both b (rising n (suc x) (take j xs)) ≡ true
        → both b (rising n (suc x) (take (suc j) xs)) ≡ false
        → pick b (suc (risen n (suc x) xs)) 0 ≡ suc j
    go ih true h g = ap suc (ih h g)
    go ih false h g = not-both (sym h)

-- a list rises only if its first ones do
pub risen-false : (n lo : ℕ) (l : List ℕ) (j : ℕ) → rising n lo (take j l) ≡ false → rising n lo l ≡ false
unfolding rising
risen-false n lo l zero e = not-both e
risen-false n lo [] (suc j) e = e
risen-false n lo (x ∷ xs) (suc j) e = go (risen-false n (suc x) xs j) (both (leb lo x) (ltb x n)) e
  where
    go : (rising n (suc x) (take j xs) ≡ false → rising n (suc x) xs ≡ false)
        → (b : Bool) → both b (rising n (suc x) (take j xs)) ≡ false → both b (rising n (suc x) xs) ≡ false
    go ih true e = ih e
    go ih false e = refl

-- ---- descriptors

pub record Over (f : ℕ → ℕ) (k n j : ℕ) : Type 0 where
  pub within : j < n
  pub before : every (λ i. leb (f i) 63) (from k j) ≡ true
  pub there : leb (f (k + j)) 63 ≡ false

pub over_first : (f : ℕ → ℕ) (k n : ℕ) → every (λ i. leb (f i) 63) (from k n) ≡ false → (j : ℕ) × Over f k n j
unfolding every from
over_first f k zero e = not-both e
over_first f k (suc n) e = go (over_first f (suc k) n) (leb (f k) 63) refl e
  where
    go : (every (λ i. leb (f i) 63) (from (suc k) n) ≡ false → (j : ℕ) × Over f (suc k) n j)
        → (b : Bool) → leb (f k) 63 ≡ b → both b (every (λ i. leb (f i) 63) (from (suc k) n)) ≡ false
        → (j : ℕ) × Over f k (suc n) j
    go ih true q e =
        let r = ih e in
        let w = r.1.within in (
          suc r.0,
          record {
            within = omega (arith, w);
            before = rw q r.1.before;
            there = rw
                (add-suc k r.0, ← suc-add k r.0) r.1.there;
          },
        )
    go ih false q e = (0, record { within = omega arith; before = refl; there = rw (add-zero k) q })

pub over-is : (f : ℕ → ℕ) (k n j : ℕ) → Over f k n j → first_over f k n ≡ f (k + j)
unfolding every from first_over
over-is f k zero j o = absurd (not-suc-le-zero o.within)
over-is f k (suc n) zero o = rw (add-zero k) (go (leb (f k) 63) (rw (add-zero k) at o.there))
  where
    go : (b : Bool) → b ≡ false → pick b (first_over f (suc k) n) (f k) ≡ f k
    go true e = not-both e
    go false e = refl
over-is f k (suc n) (suc j) o = go (over-is f (suc k) n j) (leb (f k) 63) o.before
  where
    go : (Over f (suc k) n j → first_over f (suc k) n ≡ f (suc k + j))
        → (b : Bool) → both b (every (λ i. leb (f i) 63) (from (suc k) j)) ≡ true
        → pick b (first_over f (suc k) n) (f k) ≡ f (k + suc j)
    go ih true e =
        let p : Over f (suc k) n j = record {
          within = le_of_suc-le-suc o.within;
          before = e;
          there = rw
              (suc-add k j, ← add-suc k j) o.there;
        } in
        ih p ∙ rw (suc-add k j, ← add-suc k j)
    go ih false e = not-both (sym e)

-- ---- containers

pub well-take : (s : List ℕ) (at : ℕ) (ds : List ℕ) → containers_ok s at (take (well_formed s at ds) ds) ≡ true
unfolding containers_ok well_formed
well-take s at [] = refl
well-take s at (d ∷ ds) = go (well-take s (at + size_of d) ds) (container_ok s at d) refl
  where
    go : containers_ok s (at + size_of d) (take (well_formed s (at + size_of d) ds) ds) ≡ true
        → (b : Bool) → container_ok s at d ≡ b
        → containers_ok s at (take (pick b (suc (well_formed s (at + size_of d) ds)) 0) (d ∷ ds)) ≡ true
    go ih true e = rw e ih
    go ih false e = refl

-- where container k + 1 starts, counted from the second on
place-next : (at d : ℕ) (ds : List ℕ) (k : ℕ) → container_at at (d ∷ ds) (suc k) ≡ container_at (at + size_of d) ds k
unfolding container_at sum
place-next at d ds k = sym (add_assoc at (size_of d) (sum size_of (take k ds)))

place-first : (at : ℕ) (ds : List ℕ) → container_at at ds 0 ≡ at
unfolding container_at sum
place-first at ds = add-zero at

pub well-next : (s : List ℕ) (at : ℕ) (ds : List ℕ) → containers_ok s at ds ≡ false
    → (well_formed s at ds < length ds)
    × (container_ok s (container_at at ds (well_formed s at ds)) (get_or ds (well_formed s at ds) 0) ≡ false)
unfolding containers_ok well_formed
well-next s at [] e = not-both e
well-next s at (d ∷ ds) e = go (well-next s (at + size_of d) ds) (container_ok s at d) refl e
  where
    go : (containers_ok s (at + size_of d) ds ≡ false → (well_formed s (at + size_of d) ds < length ds)
        × (container_ok s (container_at (at + size_of d) ds (well_formed s (at + size_of d) ds))
        (get_or ds (well_formed s (at + size_of d) ds) 0) ≡ false))
        → (b : Bool) → container_ok s at d ≡ b → both b (containers_ok s (at + size_of d) ds) ≡ false
        → (pick b (suc (well_formed s (at + size_of d) ds)) 0 < length (d ∷ ds))
        × (container_ok s (container_at at (d ∷ ds) (pick b (suc (well_formed s (at + size_of d) ds)) 0))
        (get_or (d ∷ ds) (pick b (suc (well_formed s (at + size_of d) ds)) 0) 0) ≡ false)
    go ih true q e =
        let r = ih e in
        let w = r.0 in
        (omega (arith, w), rw (place-next at d ds (well_formed s (at + size_of d) ds)) r.1)
    go ih false q e = (omega arith, rw (place-first at (d ∷ ds)) q)

pub well-is : (s : List ℕ) (at : ℕ) (ds : List ℕ) (k : ℕ) → k < length ds → containers_ok s at (take k ds) ≡ true
    → container_ok s (container_at at ds k) (get_or ds k 0) ≡ false → well_formed s at ds ≡ k
unfolding containers_ok well_formed
well-is s at [] k l h g = absurd (not-suc-le-zero l)
well-is s at (d ∷ ds) zero l h g = go (container_ok s at d) (rw (place-first at (d ∷ ds)) at g)
  where
    go : (b : Bool) → b ≡ false → pick b (suc (well_formed s (at + size_of d) ds)) 0 ≡ 0
    go true g = not-both g
    go false g = refl
well-is s at (d ∷ ds) (suc k) l h g =
    go (λ h. well-is s (at + size_of d) ds k (le_of_suc-le-suc l) h (rw (place-next at d ds k) at g))
    (container_ok s at d) h
  where
    go : (containers_ok s (at + size_of d) (take k ds) ≡ true → well_formed s (at + size_of d) ds ≡ k)
        → (b : Bool) → both b (containers_ok s (at + size_of d) (take k ds)) ≡ true
        → pick b (suc (well_formed s (at + size_of d) ds)) 0 ≡ suc k
    go ih true h = ap suc (ih h)
    go ih false h = not-both (sym h)

pub well-false : (s : List ℕ) (at : ℕ) (ds : List ℕ) (k : ℕ) → k < length ds
    → container_ok s (container_at at ds k) (get_or ds k 0) ≡ false
    → containers_ok s at ds ≡ false
unfolding containers_ok
well-false s at [] k l g = absurd (not-suc-le-zero l)
well-false s at (d ∷ ds) zero l g = go (container_ok s at d) (rw (place-first at (d ∷ ds)) at g)
  where
    go : (b : Bool) → b ≡ false → both b (containers_ok s (at + size_of d) ds) ≡ false
    go true g = not-both g
    go false g = refl
well-false s at (d ∷ ds) (suc k) l g =
    go (container_ok s at d) (well-false s (at + size_of d) ds k (le_of_suc-le-suc l) (rw (place-next at d ds k) at g))
  where
    go : (b : Bool) → containers_ok s (at + size_of d) ds ≡ false → both b (containers_ok s (at + size_of d) ds) ≡ false
    go true e = e
    go false e = refl

-- the first i sizes and those behind them are all
pub sum-split : (l : List ℕ) (i : ℕ) → sum size_of (take i l) + sum size_of (drop i l) ≡ sum size_of l
unfolding sum
sum-split l zero = zero-add _
sum-split [] (suc i) = refl
sum-split (x ∷ xs) (suc i) = add_assoc (size_of x) _ _ ∙ ap (λ (z : ℕ). size_of x + z) (sum-split xs i)

-- ---- spare bits

-- the byte named holds spare bits, and they are not all 0: they are its low bits
pub spare-there : (s : List ℕ) (at w n : ℕ) → spare_zero s at w n ≡ false
    → (n * w % 8 ≡ 0 → ⊥) × (get_or s (spare_byte at w n) 0 % 2 ^ (8 - n * w % 8) ≡ 0 → ⊥)
unfolding spare_byte
spare-there s at w n e = (none, λ z. not-both (sym (eq-eqb _ _ z) ∙ sym (spare-some s at w n none) ∙ e))
  where
    none : n * w % 8 ≡ 0 → ⊥
    none z = not-both (sym (spare-none s at w n z) ∙ e)
