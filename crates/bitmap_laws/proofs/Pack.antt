-- Bits that are packed are read back, at any width and any place.
-- Assumes nothing.
use mathlib.Core.Path.{◌≡◌, refl, sym, ◌∙◌}
use mathlib.Core.Logic.{⊎_elim}
use mathlib.Core.Bool.{Bool, true, false}
use mathlib.Core.List.{List, ◌++◌}
use Prim.Native.Nat.{ℕ, zero, suc, ◌+◌, ◌-◌, ◌*◌, ◌/◌, ◌%◌, ◌^◌, ◌<◌}
use native.Mathlib.Nat.{eq-or-lt_of_le, zero-add, add-zero, div-one, div-add-mod', suc-add, add-suc, not-suc-le-zero, le_of_suc-le-suc, mod-lt}
use native.Mathlib.Numerals.{add-one}
use native.Mathlib.Omega.{arith}
use borrow.Author.Tests.{lt-ltb}
use lib.Dec.{ltb}
use lib.ListN.{length, get_or, get_or-append}
use lib.Seq.{get_or-append-add}
use lib.Pow.{shr-shr, shr_lt}
use lib.Arith.{digits_div, digits_mod, lt-one}
use Rattle.common.proofs.Lists.{length-table}
use Rattle.common.specs.Bytes.{ceil8}
use Rattle.common.specs.Lists.{table}
use Rattle.common.specs.Outcome.{pick}
use Rattle.bitmap_spec.proofs.Parts.{within}
use Rattle.bitmap_spec.specs.Bits.{bit, bits, value, packed, bytes_of, value_bit, pack_values}

pub get_or-table : (f : ℕ → ℕ) (k n i : ℕ) → i < n → get_or (table f k n) i 0 ≡ f (k + i)
unfolding table
get_or-table f k zero i h = absurd (not-suc-le-zero h)
get_or-table f k (suc n) zero h = rw (add-zero k)
get_or-table f k (suc n) (suc i) h = get_or-table f (suc k) n i (le_of_suc-le-suc h) ∙ rw (suc-add k i, add-suc k i)

-- digit j of a packed number
pub packed-digit : (f : ℕ → ℕ) (p w j : ℕ) → ((i : ℕ) → f i < 2) → j < w → packed f p w / 2 ^ (w - 1 - j) % 2 ≡ f (p + j)
unfolding packed
packed-digit f p zero j b h = absurd (not-suc-le-zero h)
packed-digit f p (suc w) j b h = ⊎_elim last (λ l. earlier l (packed-digit f p w j b l)) (eq-or-lt_of_le (le_of_suc-le-suc h))
  where
    last : j ≡ w → (packed f p w * 2 + f (p + w)) / 2 ^ (suc w - 1 - j) % 2 ≡ f (p + j)
    last e =
        let z : suc w - 1 - j ≡ 0 = omega arith in
        rw (z, e, div-one) (digits_mod (packed f p w) {m = 2} (b (p + w)))

    earlier : j < w → packed f p w / 2 ^ (w - 1 - j) % 2 ≡ f (p + j) → (packed f p w * 2 + f (p + w)) / 2 ^ (suc w - 1 - j) % 2 ≡ f (p + j)
    earlier l ih =
        let z : suc w - 1 - j ≡ 1 + (w - 1 - j) = omega arith in
        rw (z, ← shr-shr (packed f p w * 2 + f (p + w)) 1 (w - 1 - j), digits_div (packed f p w) {m = 2} (b (p + w))) ih

pub bit-bytes_of : (f : ℕ → ℕ) (n p : ℕ) → ((i : ℕ) → f i < 2) → p < n * 8 → bit (bytes_of f n) p ≡ f p
unfolding bit bytes_of
bit-bytes_of f n p b h =
    let e : p / 8 * 8 + p % 8 ≡ p = omega arith in
    rw (get_or-table (λ i. packed f (i * 8) 8) 0 n (p / 8) (omega arith), zero-add, packed-digit f (p / 8 * 8) 8 (p % 8) b (omega arith), e)

-- bits within a longer list
pub bit-after : (pre s : List ℕ) (p : ℕ) → bit (pre ++ s) (length pre * 8 + p) ≡ bit s p
unfolding bit
bit-after pre s p =
    let d : (length pre * 8 + p) / 8 ≡ length pre + p / 8 = omega arith in
    let m : (length pre * 8 + p) % 8 ≡ p % 8 = omega arith in
    rw (d, m, get_or-append-add pre s (p / 8) 0)

pub bit-before : (s post : List ℕ) (p : ℕ) → p < length s * 8 → bit (s ++ post) p ≡ bit s p
unfolding bit
bit-before s post p h = rw (get_or-append s post 0 (p / 8) (omega arith))

-- bits that agree with f make what f packs
pub bits-packed : (s : List ℕ) (f : ℕ → ℕ) (p q w : ℕ) → ((j : ℕ) → j < w → bit s (p + j) ≡ f (q + j)) → bits s p w ≡ packed f q w
unfolding bits packed
bits-packed s f p q zero h = refl
bits-packed s f p q (suc w) h = rw (bits-packed s f p q w (λ j l. h j (omega arith)), h w (omega arith))

pub packed-same : (f g : ℕ → ℕ) (p q w : ℕ) → ((j : ℕ) → j < w → f (p + j) ≡ g (q + j)) → packed f p w ≡ packed g q w
unfolding packed
packed-same f g p q zero h = refl
packed-same f g p q (suc w) h = rw (packed-same f g p q w (λ j l. h j (omega arith)), h w (omega arith))

half_lt : {n : ℕ} (k : ℕ) → n < 2 ^ suc k → n / 2 < 2 ^ k
half_lt {n} k h = shr_lt k 1 (rw (add-one k) h)

-- a number of w digits is what its digits pack
pub packed-digits : (w v : ℕ) → v < 2 ^ w → packed (λ j. v / 2 ^ (w - 1 - j) % 2) 0 w ≡ v
unfolding packed
packed-digits zero v h = sym (lt-one h)
packed-digits (suc w) v h =
    let z : suc w - 1 - (0 + w) ≡ 0 = omega arith in
    rw (packed-same (λ j. v / 2 ^ (suc w - 1 - j) % 2) (λ j. v / 2 / 2 ^ (w - 1 - j) % 2) 0 0 w (λ j l. step j l), packed-digits w (v / 2) (half_lt w h), z, div-one)
    (div-add-mod' v 2)
  where
    step : (j : ℕ) → j < w → v / 2 ^ (suc w - 1 - (0 + j)) % 2 ≡ v / 2 / 2 ^ (w - 1 - (0 + j)) % 2
    step j l =
        let e : 1 + (w - 1 - (0 + j)) ≡ suc w - 1 - (0 + j) = omega arith in
        rw (shr-shr v 1 (w - 1 - (0 + j)), e)

pub length-bytes_of : (f : ℕ → ℕ) (n : ℕ) → length (bytes_of f n) ≡ n
unfolding bytes_of
length-bytes_of f n = length-table (λ i. packed f (i * 8) 8) 0 n

pub le-ceil8 : (n k : ℕ) → k < n → k < ceil8 n * 8
unfolding ceil8
le-ceil8 n k h = omega arith

pub value_bit-lt : (f : ℕ → ℕ) (w n p : ℕ) → value_bit f w n p < 2
unfolding value_bit
value_bit-lt f w n p = go (ltb p (n * w))
  where
    go : (b : Bool) → pick b (f (p / w) / 2 ^ (w - 1 - p % w) % 2) 0 < 2
    go true = mod-lt (f (p / w) / 2 ^ (w - 1 - p % w)) (omega arith)
    go false = omega arith

pub value_bit-at : (f : ℕ → ℕ) (w n i j : ℕ) → j < w → i * w + j < n * w → value_bit f w n (i * w + j) ≡ f i / 2 ^ (w - 1 - j) % 2
unfolding value_bit
value_bit-at f w n i j l u = rw (lt-ltb _ _ u, digits_div i l, digits_mod i l)

-- value i of packed values
pub value-packed : (pre post : List ℕ) (f : ℕ → ℕ) (w n i : ℕ) → i < n → f i < 2 ^ w → value (pre ++ (pack_values f w n ++ post)) (length pre) w i ≡ f i
unfolding value pack_values
value-packed pre post f w n i h b =
    bits-packed (pre ++ (bytes_of (value_bit f w n) (ceil8 (n * w)) ++ post)) (λ j. f i / 2 ^ (w - 1 - j) % 2) (length pre * 8 + i * w) 0 w at
    ∙ packed-digits w (f i) b
  where
    at : (j : ℕ) → j < w → bit (pre ++ (bytes_of (value_bit f w n) (ceil8 (n * w)) ++ post)) (length pre * 8 + i * w + j) ≡ f i / 2 ^ (w - 1 - (0 + j)) % 2
    at j l =
        let e : length pre * 8 + i * w + j ≡ length pre * 8 + (i * w + j) = omega arith in
        let u : i * w + j < n * w = omega (arith, within n i w h) in
        let c : i * w + j < ceil8 (n * w) * 8 = le-ceil8 (n * w) (i * w + j) u in
        rw (e, bit-after pre (bytes_of (value_bit f w n) (ceil8 (n * w)) ++ post) (i * w + j), bit-before (bytes_of (value_bit f w n) (ceil8 (n * w))) post (i * w + j) (rw (length-bytes_of (value_bit f w n) (ceil8 (n * w))) c), bit-bytes_of (value_bit f w n) (ceil8 (n * w)) (i * w + j) (value_bit-lt f w n) c, zero-add)
        (value_bit-at f w n i j l u)
