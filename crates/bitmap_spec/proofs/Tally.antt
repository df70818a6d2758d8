-- Counting: sums of a function over a run of numbers, the length of what a test keeps, and the set bits of bytes.
-- Assumes nothing.
use mathlib.Core.Path.{◌≡◌, refl, sym, ap, ap₂, ◌∙◌}
use mathlib.Core.Bool.{Bool, true, false}
use mathlib.Core.List.{List, ◌∷◌}
use Prim.Native.Nat.{ℕ, zero, suc, ◌+◌, ◌-◌, ◌*◌, ◌/◌, ◌%◌, ◌^◌, ◌<◌}
use native.Mathlib.Nat.{add-zero, zero-add, add-suc, suc-add, add_assoc, add_comm, not-suc-le-zero, le_of_suc-le-suc, mod-lt, div-one}
use native.Mathlib.Numerals.{add-one}
use native.Mathlib.Omega.{arith}
use lib.ListN.{length, get_or}
use lib.Dec.{eqb}
use lib.Pow.{shr-shr, shr_lt}
use lib.Count.{ones, ones_step, ones-le}
use Rattle.common.specs.Lists.{from, keep}
use Rattle.common.specs.Outcome.{pick, one}
use Rattle.bitmap_spec.specs.Bits.{bit}
use Rattle.bitmap_spec.specs.Judge.{dense}

-- f at k, .., k + n - 1, added
unfoldable pub tally : (ℕ → ℕ) → ℕ → ℕ → ℕ
tally f k zero = 0
tally f k (suc n) = tally f k n + f (k + n)

pub tally-cat : (f : ℕ → ℕ) (k a b : ℕ) → tally f k (a + b) ≡ tally f k a + tally f (k + a) b
unfolding tally
tally-cat f k a zero = rw (add-zero a, add-zero)
tally-cat f k a (suc b) = rw (add-suc a b, tally-cat f k a b, add_assoc k a b) (add_assoc (tally f k a) (tally f (k + a) b) (f (k + (a + b))))

pub tally-same : (f g : ℕ → ℕ) (k l n : ℕ) → ((i : ℕ) → i < n → f (k + i) ≡ g (l + i)) → tally f k n ≡ tally g l n
unfolding tally
tally-same f g k l zero h = refl
tally-same f g k l (suc n) h = ap₂ (λ (x y : ℕ). x + y) (tally-same f g k l n (λ i p. h i (omega arith))) (h n (omega arith))

-- what is kept of a run is counted from the front ..
pub tally-cons : (f : ℕ → ℕ) (k n : ℕ) → tally f k (suc n) ≡ f k + tally f (suc k) n
unfolding tally
tally-cons f k zero = rw (add-zero k) (omega arith)
tally-cons f k (suc n) = rw (tally-cons f k n, suc-add k n, add-suc k n) (omega arith)

len-pick : (b : Bool) (x : ℕ) (l : List ℕ) → length (pick b (x ∷ l) l) ≡ one b + length l
len-pick true x l = omega arith
len-pick false x l = omega arith

pub length-keep : (f : ℕ → Bool) (k n : ℕ) → length (keep f (from k n)) ≡ tally (λ i. one (f i)) k n
unfolding keep from tally
length-keep f k zero = refl
length-keep f k (suc n) =
    len-pick (f k) k (keep f (from (suc k) n)) ∙ ap (λ (x : ℕ). one (f k) + x) (length-keep f (suc k) n) ∙ sym (tally-cons (λ i. one (f i)) k n)

-- a digit is counted by the test that it is 1
pub one-eqb : (b : ℕ) → b < 2 → one (eqb b 1) ≡ b
one-eqb zero h = refl
one-eqb (suc zero) h = refl
one-eqb (suc (suc b)) h = absurd (not-suc-le-zero (le_of_suc-le-suc (le_of_suc-le-suc h)))

half_lt : {n : ℕ} (k : ℕ) → n < 2 ^ suc k → n / 2 < 2 ^ k
half_lt {n} k h = shr_lt k 1 (rw (add-one k) h)

-- the set digits of a number of w digits, counted from the highest: for any width
pub ones-tally : (w b : ℕ) → b < 2 ^ w → ones b ≡ tally (λ j. b / 2 ^ (w - 1 - j) % 2) 0 w
unfolding tally
ones-tally zero b h = omega (arith, ones-le 0 b h)
ones-tally (suc w) b h =
    ones_step b ∙ add_comm (b % 2) (ones (b / 2))
    ∙ ap₂ (λ (x y : ℕ). x + y)
    (ones-tally w (b / 2) (half_lt w h) ∙ tally-same (λ j. b / 2 / 2 ^ (w - 1 - j) % 2) (λ j. b / 2 ^ (suc w - 1 - j) % 2) 0 0 w (λ i l. step i l))
    last
  where
    step : (i : ℕ) → i < w → b / 2 / 2 ^ (w - 1 - (0 + i)) % 2 ≡ b / 2 ^ (suc w - 1 - (0 + i)) % 2
    step i l =
        let e : 1 + (w - 1 - (0 + i)) ≡ suc w - 1 - (0 + i) = omega arith in
        ap (λ (x : ℕ). x % 2) (shr-shr b 1 (w - 1 - (0 + i)) ∙ ap (λ (x : ℕ). b / 2 ^ x) e)

    last : b % 2 ≡ b / 2 ^ (suc w - 1 - (0 + w)) % 2
    last =
        let e : suc w - 1 - (0 + w) ≡ 0 = omega arith in
        rw e (ap (λ (x : ℕ). x % 2) (sym (div-one b)))

-- ---- bits of bytes

pub bit_at : (s : List ℕ) (q j : ℕ) → j < 8 → bit s (q * 8 + j) ≡ get_or s q 0 / 2 ^ (7 - j) % 2
unfolding bit
bit_at s q j h =
    let d : (q * 8 + j) / 8 ≡ q = omega arith in
    let m : (q * 8 + j) % 8 ≡ j = omega arith in
    rw (d, m)

pub bit-lt : (s : List ℕ) (p : ℕ) → bit s p < 2
unfolding bit
bit-lt s p = mod-lt (get_or s (p / 8) 0 / 2 ^ (7 - p % 8)) (omega arith)

-- the set bits of the byte q
pub tally-byte : (s : List ℕ) (q : ℕ) → get_or s q 0 < 256 → tally (bit s) (q * 8) 8 ≡ ones (get_or s q 0)
tally-byte s q h =
    tally-same (bit s) (λ j. get_or s q 0 / 2 ^ (7 - j) % 2) (q * 8) 0 8 (λ i l. bit_at s q i l ∙ sym (rw (zero-add i)))
    ∙ sym (ones-tally 8 (get_or s q 0) h)

-- one byte more
pub tally-more : (s : List ℕ) (at i : ℕ) → get_or s (at + i) 0 < 256 → tally (bit s) (at * 8) ((i + 1) * 8) ≡ tally (bit s) (at * 8) (i * 8) + ones (get_or s (at + i) 0)
tally-more s at i h =
    let e : (i + 1) * 8 ≡ i * 8 + 8 = omega arith in
    let f : at * 8 + i * 8 ≡ (at + i) * 8 = omega arith in
    rw (e, tally-cat (bit s) (at * 8) (i * 8) 8, f) (ap (λ (x : ℕ). tally (bit s) (at * 8) (i * 8) + x) (tally-byte s (at + i) h))

-- the members of a dense container, counted from the bits
pub dense-length : (s : List ℕ) (at : ℕ) → length (dense s at) ≡ tally (bit s) (at * 8) 256
unfolding dense
dense-length s at =
    length-keep (λ j. eqb (bit s (at * 8 + j)) 1) 0 256
    ∙ tally-same (λ j. one (eqb (bit s (at * 8 + j)) 1)) (bit s) 0 (at * 8) 256
    (λ i l. one-eqb (bit s (at * 8 + (0 + i))) (bit-lt s (at * 8 + (0 + i))) ∙ rw (zero-add i))
