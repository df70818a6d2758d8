-- A packed value read out of two bytes, for any width.
-- Assumes nothing.
use mathlib.Core.Path.{◌≡◌, sym, ap, ap₂, ◌∙◌}
use mathlib.Core.Logic.{◌⊎◌, inl, inr, ⊎_elim}
use mathlib.Core.List.{List}
use Prim.Native.Nat.{ℕ, zero, suc, ◌+◌, ◌-◌, ◌*◌, ◌/◌, ◌%◌, ◌^◌, ◌≤◌, ◌<◌}
use native.Mathlib.Nat.{mod-one, lt_of_not-le, pow-suc, one-mul}
use native.Mathlib.Decide.{dec_le}
use native.Mathlib.Numerals.{add-one}
use native.Mathlib.Omega.{arith}
use lib.ListN.{get_or}
use lib.Pow.{shr-shr, high, low, field, mod-mod-pow, mod-pow-add, shl_exact}
use lib.Dec.{eqb}
use mathlib.Core.Bool.{true}
use Rattle.common.specs.Bytes.{ceil8}
use Rattle.bitmap_spec.proofs.Tally.{bit_at, bit-lt}
use Rattle.bitmap_spec.specs.Bits.{bit, bits, value, spare_zero}

-- one of two numbers is below the other, or not
pub below_or : (a b : ℕ) → (a < b) ⊎ (b ≤ a)
below_or a b = go (dec_le b a)
  where
    go : Dec (b ≤ a) → (a < b) ⊎ (b ≤ a)
    go (yes h) = inr h
    go (no h) = inl (lt_of_not-le h)

-- digit j from the top of the sixteen of hi * 256 + lo
top : (hi lo j : ℕ) → lo < 256 → j < 8 → (hi * 256 + lo) / 2 ^ (15 - j) ≡ hi / 2 ^ (7 - j)
top hi lo j l h =
    let e : 8 + (7 - j) ≡ 15 - j = omega arith in
    rw (← e, ← shr-shr (hi * 256 + lo) 8 (7 - j)) (ap (λ (x : ℕ). x / 2 ^ (7 - j)) (high hi 8 l))

bottom : (hi lo k : ℕ) → lo < 256 → k < 8 → (hi * 256 + lo) / 2 ^ k % 2 ≡ lo / 2 ^ k % 2
bottom hi lo k l h =
    let e : (7 - k) + (1 + k) ≡ 8 = omega arith in
    sym (field (hi * 256 + lo) 1 k)
    ∙ ap (λ (x : ℕ). x / 2 ^ k) (sym (mod-mod-pow (hi * 256 + lo) (7 - k) (1 + k)) ∙ rw (e, low hi 8 l))
    ∙ field lo 1 k

-- the w digits that stand r below the top
step : (x r w : ℕ) → r + w < 16 → x / 2 ^ (16 - r - suc w) % 2 ^ suc w ≡ (x / 2 ^ (16 - r - w) % 2 ^ w) * 2 + x / 2 ^ (15 - (r + w)) % 2
step x r w h =
    let e : 16 - r - suc w ≡ 15 - (r + w) = omega arith in
    let f : 15 - (r + w) + 1 ≡ 16 - r - w = omega arith in
    rw (e, ← add-one w, mod-pow-add (x / 2 ^ (15 - (r + w))) w 1, shr-shr x (15 - (r + w)) 1, f)

bit-of : (s : List ℕ) (q lo j : ℕ) → lo < 256 → j < 16 → (8 ≤ j → lo ≡ get_or s (q + 1) 0) → bit s (q * 8 + j) ≡ (get_or s q 0 * 256 + lo) / 2 ^ (15 - j) % 2
bit-of s q lo j l h e = ⊎_elim near far (below_or j 8)
  where
    near : j < 8 → bit s (q * 8 + j) ≡ (get_or s q 0 * 256 + lo) / 2 ^ (15 - j) % 2
    near g = bit_at s q j g ∙ ap (λ (x : ℕ). x % 2) (sym (top (get_or s q 0) lo j l g))

    far : 8 ≤ j → bit s (q * 8 + j) ≡ (get_or s q 0 * 256 + lo) / 2 ^ (15 - j) % 2
    far g =
        let a : q * 8 + j ≡ (q + 1) * 8 + (j - 8) = omega arith in
        let b : 7 - (j - 8) ≡ 15 - j = omega arith in
        rw (a, bit_at s (q + 1) (j - 8) (omega arith), b, ← e g) (sym (bottom (get_or s q 0) lo (15 - j) l (omega arith)))

-- The w bits from bit r of byte q on lie in bytes q and q + 1; where they end in byte q, any byte does for the second.
pub window : (s : List ℕ) (q r lo w : ℕ) → lo < 256 → r + w ≤ 16 → (8 < r + w → lo ≡ get_or s (q + 1) 0)
    → bits s (q * 8 + r) w ≡ (get_or s q 0 * 256 + lo) / 2 ^ (16 - r - w) % 2 ^ w
unfolding bits
window s q r lo zero l h e = sym (mod-one ((get_or s q 0 * 256 + lo) / 2 ^ (16 - r - 0)))
window s q r lo (suc w) l h e =
    let a : q * 8 + r + w ≡ q * 8 + (r + w) = omega arith in
    rw (step (get_or s q 0 * 256 + lo) r w (omega arith), a)
    (ap₂ (λ (x y : ℕ). x * 2 + y) (window s q r lo w l (omega arith) (λ g. e (omega arith)))
    (bit-of s q lo (r + w) l (omega arith) (λ g. e (omega arith))))

-- the same of value i, w bits each, from byte at on
pub value-window : (s : List ℕ) (at w i lo : ℕ) → lo < 256 → w ≤ 8 → (8 < i * w % 8 + w → lo ≡ get_or s (at + i * w / 8 + 1) 0)
    → value s at w i ≡ (get_or s (at + i * w / 8) 0 * 256 + lo) / 2 ^ (16 - i * w % 8 - w) % 2 ^ w
unfolding value
value-window s at w i lo l h e =
    let a : at * 8 + i * w ≡ (at + i * w / 8) * 8 + i * w % 8 = omega arith in
    rw a (window s (at + i * w / 8) (i * w % 8) lo w l (omega arith) e)

pub value_none : (s : List ℕ) (at w i : ℕ) → w ≡ 0 → value s at w i ≡ 0
unfolding value bits
value_none s at w i e = rw e

pub bits-lt : (s : List ℕ) (p w : ℕ) → bits s p w < 2 ^ w
unfolding bits
bits-lt s p zero = omega arith
bits-lt s p (suc w) = rw (pow-suc 2 w) (omega (arith, bits-lt s p w, bit-lt s (p + w)))

pub value-lt : (s : List ℕ) (at w i : ℕ) → value s at w i < 2 ^ w
unfolding value
value-lt s at w i = bits-lt s (at * 8 + i * w) w

-- a shifted 1 at 32 bits
pub shifted_one : (w : ℕ) → w ≤ 8 → 1 * 2 ^ w % 4294967296 ≡ 2 ^ w
shifted_one w h = shl_exact {a = 1} 1 w 32 (omega arith) (omega arith) ∙ one-mul (2 ^ w)

-- ---- spare bits

pub spare-none : (s : List ℕ) (at w n : ℕ) → n * w % 8 ≡ 0 → spare_zero s at w n ≡ true
unfolding spare_zero ceil8 bits
spare-none s at w n h =
    let e : (n * w + 7) / 8 * 8 - n * w ≡ 0 = omega arith in
    rw e

pub spare-some : (s : List ℕ) (at w n : ℕ) → (n * w % 8 ≡ 0 → ⊥) → spare_zero s at w n ≡ eqb (get_or s (at + n * w / 8) 0 % 2 ^ (8 - n * w % 8)) 0
unfolding spare_zero ceil8
spare-some s at w n h =
    let p : 0 < n * w % 8 = omega arith in
    let e : (n * w + 7) / 8 * 8 - n * w ≡ 8 - n * w % 8 = omega arith in
    let a : at * 8 + n * w ≡ (at + n * w / 8) * 8 + n * w % 8 = omega arith in
    let f : 16 - n * w % 8 - (8 - n * w % 8) ≡ 8 = omega arith in
    rw (e, a, window s (at + n * w / 8) (n * w % 8) 0 (8 - n * w % 8) (omega arith) (omega arith) (λ g. absurd (omega arith)), f, high (get_or s (at + n * w / 8) 0) 8 {lo = 0} (omega arith))
