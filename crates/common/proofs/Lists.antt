-- Laws of the lists that the definitions use.
-- Assumes nothing.
use mathlib.Core.Path.{◌≡◌, refl, sym, ap, ◌∙◌}
use mathlib.Core.Bool.{Bool, true, false}
use mathlib.Core.List.{List, [], ◌∷◌, ◌++◌}
use Prim.Native.Nat.{ℕ, zero, suc, ◌+◌, ◌-◌, ◌≤◌, ◌<◌}
use native.Mathlib.Nat.{add-zero, zero-add, add-suc, suc-add, not-suc-le-zero, le_of_suc-le-suc}
use native.Mathlib.Omega.{arith}
use borrow.Author.Tests.{leb-true, ltb-true}
use lib.ListN.{length, get_or, take, drop}
use lib.Seq.{drop-cons}
use lib.Dec.{leb, ltb}
use Rattle.common.specs.Outcome.{both}
use Rattle.common.specs.Lists.{from, rising, every, table}

-- ---- a test that holds of both, of each
pub both_left : (a b : Bool) → both a b ≡ true → a ≡ true
both_left true b e = refl
both_left false b e = e

pub both_right : (a b : Bool) → both a b ≡ true → b ≡ true
both_right true b e = e
both_right false b e = absurd (let z : ◌≡◌ {A = ℕ} 0 1 = cc in omega arith)

pub every-hit : (f : ℕ → Bool) (k n i : ℕ) → i < n → f (k + i) ≡ false → every f (from k n) ≡ false
unfolding every from
every-hit f k zero i h e = absurd (not-suc-le-zero h)
every-hit f k (suc n) zero h e = rw (sym (add-zero k)) (rw e)
every-hit f k (suc n) (suc i) h e =
    let r = every-hit f (suc k) n i (le_of_suc-le-suc h) (rw (suc-add k i, ← add-suc k i) e) in
    rw r (no_more (f k))
  where
    no_more : (b : Bool) → both b false ≡ false
    no_more true = refl
    no_more false = refl

pub every-all : (f : ℕ → Bool) (k n : ℕ) → ((i : ℕ) → i < n → f (k + i) ≡ true) → every f (from k n) ≡ true
unfolding every from
every-all f k zero h = refl
every-all f k (suc n) h =
    let a : f k ≡ true = rw (add-zero k) at (h 0 (omega arith)) in
    rw a (every-all f (suc k) n (λ i l. rw (suc-add k i, ← add-suc k i) (h (suc i) (omega arith))))

pub every-each : (f : ℕ → Bool) (n i : ℕ) → every f (from 0 n) ≡ true → i < n → f i ≡ true
every-each f n i e h = by-test (f i) refl
  where
    by-test : (t : Bool) → f i ≡ t → f i ≡ true
    by-test true q = q
    by-test false q =
        let none = every-hit f 0 n i h (rw (zero-add i) q) in
        absurd (let z : ◌≡◌ {A = ℕ} 0 1 = cc in omega arith)

-- ---- tables
pub table-snoc : (f : ℕ → ℕ) (k n : ℕ) → table f k (suc n) ≡ table f k n ++ (f (k + n) ∷ [])
unfolding table
table-snoc f k zero = rw (add-zero k)
table-snoc f k (suc n) = ap (λ (l : List ℕ). f k ∷ l) (table-snoc f (suc k) n ∙ rw (suc-add k n, add-suc k n))

pub length-table : (f : ℕ → ℕ) (k n : ℕ) → length (table f k n) ≡ n
unfolding table
length-table f k zero = refl
length-table f k (suc n) = ap suc (length-table f (suc k) n)

-- ---- rising lists
pub rising-range : (n lo : ℕ) (l : List ℕ) (b : ℕ) → rising n lo l ≡ true → b < length l → (lo ≤ get_or l b 0) × (get_or l b 0 < n)
unfolding rising
rising-range n lo [] b e h = absurd (not-suc-le-zero h)
rising-range n lo (x ∷ xs) zero e h =
    let t = both_left (both (leb lo x) (ltb x n)) (rising n (suc x) xs) e in
    (leb-true lo x (both_left (leb lo x) (ltb x n) t), ltb-true x n (both_right (leb lo x) (ltb x n) t))
rising-range n lo (x ∷ xs) (suc b) e h =
    let t = both_left (both (leb lo x) (ltb x n)) (rising n (suc x) xs) e in
    let r = rising-range n (suc x) xs b (both_right (both (leb lo x) (ltb x n)) (rising n (suc x) xs) e) (le_of_suc-le-suc h) in
    let g = leb-true lo x (both_left (leb lo x) (ltb x n) t) in
    (omega arith, r.1)

pub rising-less : (n lo : ℕ) (l : List ℕ) (a b : ℕ) → rising n lo l ≡ true → a < b → b < length l → get_or l a 0 < get_or l b 0
unfolding rising
rising-less n lo [] a b e g h = absurd (not-suc-le-zero h)
rising-less n lo (x ∷ xs) zero zero e g h = absurd (not-suc-le-zero g)
rising-less n lo (x ∷ xs) zero (suc b) e g h =
    (rising-range n (suc x) xs b (both_right (both (leb lo x) (ltb x n)) (rising n (suc x) xs) e) (le_of_suc-le-suc h)).0
rising-less n lo (x ∷ xs) (suc a) zero e g h = absurd (not-suc-le-zero g)
rising-less n lo (x ∷ xs) (suc a) (suc b) e g h =
    rising-less n (suc x) xs a b (both_right (both (leb lo x) (ltb x n)) (rising n (suc x) xs) e) (le_of_suc-le-suc g) (le_of_suc-le-suc h)

-- the first of a run
pub run-cons : (s : List ℕ) (o e i : ℕ) → i < e → o + e ≤ length s → take (e - i) (drop (o + i) s) ≡ get_or s (o + i) 0 ∷ take (e - (i + 1)) (drop (o + (i + 1)) s)
run-cons s o e i h g =
    let a : e - i ≡ suc (e - (i + 1)) = omega arith in
    let b : o + (i + 1) ≡ suc (o + i) = omega arith in
    rw (a, b, drop-cons s (o + i) 0 (omega arith))

pub rising_step : (n lo : ℕ) (s : List ℕ) (o e i : ℕ) → i < e → o + e ≤ length s
    → rising n lo (take (e - i) (drop (o + i) s)) ≡ both (both (leb lo (get_or s (o + i) 0)) (ltb (get_or s (o + i) 0) n)) (rising n (suc (get_or s (o + i) 0)) (take (e - (i + 1)) (drop (o + (i + 1)) s)))
unfolding rising
rising_step n lo s o e i h g = rw (run-cons s o e i h g)

pub rising-end : (n lo : ℕ) (s : List ℕ) (o e i : ℕ) → e ≤ i → rising n lo (take (e - i) (drop (o + i) s)) ≡ true
unfolding rising
rising-end n lo s o e i h =
    let a : e - i ≡ 0 = omega arith in
    rw a
