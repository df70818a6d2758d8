-- Rising lists and their members: what a test keeps of a run; lists with the same members are equal.
-- Assumes nothing.
use mathlib.Core.Path.{◌≡◌, refl, sym, ap, ◌∙◌}
use mathlib.Core.Logic.{⊎_elim}
use mathlib.Core.Bool.{Bool, true, false}
use mathlib.Core.List.{List, [], ◌∷◌}
use Prim.Native.Nat.{ℕ, zero, suc, ◌+◌, ◌*◌, ◌≤◌, ◌<◌}
use native.Mathlib.Nat.{eq-or-lt_of_le}
use native.Mathlib.Omega.{arith}
use borrow.Author.Tests.{eq-eqb, ne_eqb, le-leb, lt-ltb, leb-true, ltb-true}
use lib.Dec.{leb, ltb}
use Rattle.common.proofs.Lists.{both_left, both_right}
use Rattle.common.specs.Lists.{keep, from, mem, rising}
use Rattle.common.specs.Outcome.{pick, both}
use Rattle.bitmap_spec.proofs.Window.{below_or}
use Rattle.bitmap_spec.specs.Form.{largest, count_of}

not-both : (b : Bool) → b ≡ true → b ≡ false → ⊥
not-both b p q = let z : ◌≡◌ {A = ℕ} 0 1 = cc in omega arith

-- the head of a rising list, and its tail
pub head_ok : (n lo x : ℕ) (xs : List ℕ) → rising n lo (x ∷ xs) ≡ true → (lo ≤ x) × (x < n) × (rising n (suc x) xs ≡ true)
unfolding rising
head_ok n lo x xs e =
    let t = both_left (both (leb lo x) (ltb x n)) _ e in
    (leb-true lo x (both_left (leb lo x) _ t), ltb-true x n (both_right (leb lo x) _ t), both_right (both (leb lo x) (ltb x n)) _ e)

pub mem-low : (n lo : ℕ) (l : List ℕ) (z : ℕ) → rising n lo l ≡ true → z < lo → mem z l ≡ false
unfolding mem
mem-low n lo [] z e h = refl
mem-low n lo (x ∷ xs) z e h =
    let o = head_ok n lo x xs e in
    rw (ne_eqb z x (λ q. omega arith)) (mem-low n (suc x) xs z o.2 (omega arith))

pub mem-head : (x : ℕ) (xs : List ℕ) → mem x (x ∷ xs) ≡ true
unfolding mem
mem-head x xs = rw (eq-eqb x x refl)

pub mem-tail : (z x : ℕ) (xs : List ℕ) → (z ≡ x → ⊥) → mem z (x ∷ xs) ≡ mem z xs
unfolding mem
mem-tail z x xs h = rw (ne_eqb z x h)

nil : (z : ℕ) → mem z [] ≡ false
unfolding mem
nil z = refl

-- one list for each set
pub ext : (n lo : ℕ) (a b : List ℕ) → rising n lo a ≡ true → rising n lo b ≡ true → ((z : ℕ) → mem z a ≡ mem z b) → a ≡ b
ext n lo [] [] p q h = refl
ext n lo [] (y ∷ ys) p q h = absurd (not-both (mem y (y ∷ ys)) (mem-head y ys) (sym (h y) ∙ nil y))
ext n lo (x ∷ xs) [] p q h = absurd (not-both (mem x (x ∷ xs)) (mem-head x xs) (h x ∙ nil x))
ext n lo (x ∷ xs) (y ∷ ys) p q h = rw (same) (ap (λ (l : List ℕ). y ∷ l) (ext n (suc y) xs ys (rw same at (head_ok n lo x xs p).2) (head_ok n lo y ys q).2 rest))
  where
    less : (u v : ℕ) (us vs : List ℕ) → rising n lo (v ∷ vs) ≡ true → ((z : ℕ) → mem z (u ∷ us) ≡ mem z (v ∷ vs)) → u < v → ⊥
    less u v us vs r g l =
        not-both (mem u (u ∷ us)) (mem-head u us) (g u ∙ mem-tail u v vs (λ e. omega arith) ∙ mem-low n (suc v) vs u (head_ok n lo v vs r).2 (omega arith))

    same : x ≡ y
    same =
        ⊎_elim (λ l. absurd (less x y xs ys q h l))
        (λ l. ⊎_elim (λ e. sym e) (λ g. absurd (less y x ys xs p (λ z. sym (h z)) g)) (eq-or-lt_of_le l)) (below_or x y)

    rest : (z : ℕ) → mem z xs ≡ mem z ys
    rest z =
        ⊎_elim (λ l. mem-low n (suc x) xs z (head_ok n lo x xs p).2 (omega arith) ∙ sym (mem-low n (suc y) ys z (head_ok n lo y ys q).2 (omega (arith, same))))
        (λ l. sym (mem-tail z x xs (λ e. omega arith)) ∙ h z ∙ mem-tail z y ys (λ e. omega (arith, same))) (below_or z (suc x))

-- what a test keeps of a run rises, and holds what passes
pub rising-keep : (f : ℕ → Bool) (n k m : ℕ) → k + m ≤ n → rising n k (keep f (from k m)) ≡ true
unfolding keep from rising
rising-keep f n k zero h = refl
rising-keep f n k (suc m) h = go (f k) (rising-keep f n (suc k) m (omega arith))
  where
    weaker : (lo lo' : ℕ) (l : List ℕ) → lo ≤ lo' → rising n lo' l ≡ true → rising n lo l ≡ true
    weaker lo lo' [] g e = refl
    weaker lo lo' (x ∷ xs) g e =
        let o = head_ok n lo' x xs e in
        rw (le-leb lo x (omega arith), lt-ltb x n o.1) o.2

    go : (b : Bool) → rising n (suc k) (keep f (from (suc k) m)) ≡ true → rising n k (pick b (k ∷ keep f (from (suc k) m)) (keep f (from (suc k) m))) ≡ true
    go true ih = rw (le-leb k k (omega arith), lt-ltb k n (omega arith)) ih
    go false ih = weaker k (suc k) (keep f (from (suc k) m)) (omega arith) ih

pub mem-keep : (f : ℕ → Bool) (k m z : ℕ) → k ≤ z → z < k + m → mem z (keep f (from k m)) ≡ f z
unfolding keep from mem
mem-keep f k zero z h g = absurd (omega arith)
mem-keep f k (suc m) z h g = ⊎_elim here (λ l. later l (mem-keep f (suc k) m z l (omega arith))) (eq-or-lt_of_le h)
  where
    low : mem k (keep f (from (suc k) m)) ≡ false
    low = mem-low (suc k + m) (suc k) (keep f (from (suc k) m)) k (rising-keep f (suc k + m) (suc k) m (omega arith)) (omega arith)

    at : (b : Bool) → mem k (pick b (k ∷ keep f (from (suc k) m)) (keep f (from (suc k) m))) ≡ b
    at true = mem-head k (keep f (from (suc k) m))
    at false = low

    here : k ≡ z → mem z (pick (f k) (k ∷ keep f (from (suc k) m)) (keep f (from (suc k) m))) ≡ f z
    here e = rw (← e) (at (f k))

    past : (b : Bool) → k < z → mem z (pick b (k ∷ keep f (from (suc k) m)) (keep f (from (suc k) m))) ≡ mem z (keep f (from (suc k) m))
    past true l = mem-tail z k (keep f (from (suc k) m)) (λ e. omega arith)
    past false l = refl

    later : k < z → mem z (keep f (from (suc k) m)) ≡ f z → mem z (pick (f k) (k ∷ keep f (from (suc k) m)) (keep f (from (suc k) m))) ≡ f z
    later l ih = past (f k) l ∙ ih

pub mem-high : (n lo : ℕ) (l : List ℕ) (z : ℕ) → rising n lo l ≡ true → n ≤ z → mem z l ≡ false
unfolding mem
mem-high n lo [] z e h = refl
mem-high n lo (x ∷ xs) z e h =
    let o = head_ok n lo x xs e in
    rw (ne_eqb z x (λ q. omega arith)) (mem-high n (suc x) xs z o.2 h)

-- nothing lies beyond the containers that a list needs
pub mem-large : (l : List ℕ) (z : ℕ) → largest l < z → mem z l ≡ false
unfolding mem largest
mem-large [] z h = refl
mem-large (x ∷ xs) z h = rw (ne_eqb z x (λ q. omega arith)) (mem-large xs z (omega arith))

pub mem-beyond : (l : List ℕ) (z : ℕ) → count_of l * 256 ≤ z → mem z l ≡ false
unfolding count_of
mem-beyond [] z h = nil z
mem-beyond (x ∷ xs) z h = mem-large (x ∷ xs) z (omega arith)
