-- Rising lists: joined, shifted, counted; the members below a bound.
-- Assumes nothing.
use mathlib.Core.Path.{◌≡◌, refl}
use mathlib.Core.Bool.{true}
use mathlib.Core.List.{List, [], ◌∷◌, ◌++◌, map}
use Prim.Native.Nat.{ℕ, suc, ◌+◌, ◌≤◌, ◌<◌}
use native.Mathlib.Nat.{add-suc}
use native.Mathlib.Omega.{arith}
use borrow.Author.Tests.{le-leb, lt-ltb}
use lib.ListN.{length}
use Rattle.common.specs.Lists.{rising}
use Rattle.bitmap_spec.specs.Form.{largest, count_of}
use Rattle.bitmap_spec.specs.Sets.{IsSet}
use Rattle.bitmap_laws.proofs.Members.{head_ok}

pub cons_ok : (n lo x : ℕ) (xs : List ℕ) → lo ≤ x → x < n → rising n (suc x) xs ≡ true → rising n lo (x ∷ xs) ≡ true
unfolding rising
cons_ok n lo x xs p q r = rw (le-leb lo x p, lt-ltb x n q) r

pub none-up : (n lo : ℕ) → rising n lo [] ≡ true
unfolding rising
none-up n lo = refl

pub weaker : (n n' lo lo' : ℕ) (l : List ℕ) → lo ≤ lo' → n' ≤ n → rising n' lo' l ≡ true → rising n lo l ≡ true
unfolding rising
weaker n n' lo lo' [] g h e = refl
weaker n n' lo lo' (x ∷ xs) g h e =
    let o = head_ok n' lo' x xs e in
    cons_ok n lo x xs (omega arith) (omega arith) (weaker n n' (suc x) (suc x) xs (omega arith) h o.2)

pub rising-cat : (n lo mid : ℕ) (a b : List ℕ) → lo ≤ mid → mid ≤ n → rising mid lo a ≡ true → rising n mid b ≡ true → rising n lo (a ++ b) ≡ true
rising-cat n lo mid [] b g h p q = weaker n n lo mid b g (omega arith) q
rising-cat n lo mid (x ∷ xs) b g h p q =
    let o = head_ok mid lo x xs p in
    cons_ok n lo x (xs ++ b) o.0 (omega arith) (rising-cat n (suc x) mid xs b o.1 h o.2 q)

pub rising-shift : (k n lo : ℕ) (l : List ℕ) → rising n lo l ≡ true → rising (k + n) (k + lo) (map (λ j. k + j) l) ≡ true
rising-shift k n lo [] e = none-up (k + n) (k + lo)
rising-shift k n lo (x ∷ xs) e =
    let o = head_ok n lo x xs e in
    cons_ok (k + n) (k + lo) (k + x) (map (λ j. k + j) xs) (omega arith) (omega arith) (rw (← add-suc k x) (rising-shift k n (suc x) xs o.2))

pub rising-length : (n lo : ℕ) (l : List ℕ) → lo ≤ n → rising n lo l ≡ true → lo + length l ≤ n
rising-length n lo [] h e = omega arith
rising-length n lo (x ∷ xs) h e =
    let o = head_ok n lo x xs e in
    omega (arith, rising-length n (suc x) xs o.1 o.2)

largest-lt : (n lo : ℕ) (l : List ℕ) → 0 < n → rising n lo l ≡ true → largest l < n
unfolding largest
largest-lt n lo [] h e = h
largest-lt n lo (x ∷ xs) h e =
    let o = head_ok n lo x xs e in
    omega (arith, largest-lt n (suc x) xs h o.2)

pub count-bound : (l : List ℕ) → IsSet l → count_of l ≤ 8192
unfolding count_of
count-bound [] e = omega arith
count-bound (x ∷ xs) e = omega (arith, largest-lt 2097152 0 (x ∷ xs) (omega arith) e)
