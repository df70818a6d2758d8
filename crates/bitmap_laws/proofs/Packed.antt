-- Bits packed into a number: its size, its parts, and its highest set bit.
-- Assumes nothing.
use mathlib.Core.Path.{◌≡◌, refl, ap, ◌∙◌}
use mathlib.Core.Logic.{⊎_elim}
use mathlib.Core.List.{List}
use Prim.Native.Nat.{ℕ, zero, suc, ◌+◌, ◌-◌, ◌*◌, ◌/◌, ◌%◌, ◌^◌, ◌≤◌, ◌<◌}
use native.Mathlib.Nat.{add-zero, add-suc, add_assoc, mul_assoc, pow-suc, lt_of_lt_of_le, zero-mul, eq-or-lt_of_le, le_of_suc-le-suc}
use native.Mathlib.Nat
use native.Mathlib.Omega.{arith}
use lib.ListN.{get_or}
use lib.Pow.{pow_mono}
use Rattle.bitmap_spec.specs.Bits.{bit, packed}
use Rattle.bitmap_spec.proofs.Tally.{bit_at}
use Rattle.bitmap_laws.proofs.Pack.{packed-same, packed-digits}

pub packed_lt : (f : ℕ → ℕ) (p w : ℕ) → ((i : ℕ) → f i < 2) → packed f p w < 2 ^ w
unfolding packed
packed_lt f p zero h = omega arith
packed_lt f p (suc w) h = rw (pow-suc 2 w) (omega (arith, packed_lt f p w h, h (p + w)))

pub packed_byte : (f : ℕ → ℕ) (p w : ℕ) → ((i : ℕ) → f i < 2) → w ≤ 8 → packed f p w < 256
packed_byte f p w h l = lt_of_lt_of_le (packed_lt f p w h) (pow_mono {i = w} {j = 8} l)

-- the bits of one run, and then those of the next
pub packed-cat : (f : ℕ → ℕ) (p a b : ℕ) → packed f p (a + b) ≡ packed f p a * 2 ^ b + packed f (p + a) b
unfolding packed
packed-cat f p a zero = rw (add-zero a) (omega arith)
packed-cat f p a (suc b) = rw (add-suc a b, packed-cat f p a b, add_assoc p a b, pow-suc 2 b) (omega (arith, mul_assoc (packed f p a) (2 ^ b) 2))

-- the bits of byte q make its number
pub packed-of-byte : (s : List ℕ) (q : ℕ) → get_or s q 0 < 256 → packed (bit s) (q * 8) 8 ≡ get_or s q 0
packed-of-byte s q h =
    packed-same (bit s) (λ j. get_or s q 0 / 2 ^ (8 - 1 - j) % 2) (q * 8) 0 8 (λ j l. let z : 8 - 1 - (0 + j) ≡ 7 - j = omega arith in rw z (bit_at s q j l))
    ∙ packed-digits 8 (get_or s q 0) h

-- 0 has no set bit
pub packed_none : (f : ℕ → ℕ) (p w : ℕ) → packed f p w ≡ 0 → (i : ℕ) → i < w → f (p + i) ≡ 0
unfolding packed
packed_none f p zero e i l = absurd (omega arith)
packed_none f p (suc w) e i l = ⊎_elim (λ q. rw q (omega arith)) (λ q. packed_none f p w (omega arith) i q) (eq-or-lt_of_le (le_of_suc-le-suc l))

one_bit : (f : ℕ → ℕ) (p : ℕ) → packed f p 1 ≡ f p
unfolding packed
one_bit f p = rw (add-zero p) (omega arith)

-- the highest set bit, at place t from the low end: nothing before it, then it, then the rest
pub record Top (f : ℕ → ℕ) (p w t x : ℕ) : Type 0 where
  pub before : (i : ℕ) → i < w - 1 - t → f (p + i) ≡ 0
  pub here : f (p + (w - 1 - t)) ≡ 1
  pub rest : x - 2 ^ t ≡ packed f (p + (w - 1 - t) + 1) t

pub packed-top : (f : ℕ → ℕ) (p w t x : ℕ) → ((i : ℕ) → f i < 2) → x ≡ packed f p w → t < w → 2 ^ t ≤ x → x < 2 ^ suc t → Top f p w t x
packed-top f p w t x b e l lo hi =
    let k : w ≡ (w - 1 - t) + suc t = omega arith in
    let c = ap (packed f p) k ∙ packed-cat f p (w - 1 - t) (suc t) in
    let a : packed f p (w - 1 - t) ≡ 0 = no-high (packed f p (w - 1 - t)) (2 ^ suc t) (packed f (p + (w - 1 - t)) (suc t)) (rw (← c, ← e) hi) in
    let y : x ≡ packed f (p + (w - 1 - t)) (1 + t) = e ∙ c ∙ rw (a, zero-mul (2 ^ suc t)) (omega (arith, ap (packed f (p + (w - 1 - t))) (one_more t))) in
    let z : packed f (p + (w - 1 - t)) (1 + t) ≡ packed f (p + (w - 1 - t)) 1 * 2 ^ t + packed f (p + (w - 1 - t) + 1) t = packed-cat f (p + (w - 1 - t)) 1 t in
    let u = packed_lt f (p + (w - 1 - t) + 1) t b in
    let o = one_bit f (p + (w - 1 - t)) in
    let v : f (p + (w - 1 - t)) ≡ 1 = high_one (f (p + (w - 1 - t))) (2 ^ t) (packed f (p + (w - 1 - t) + 1) t) (b (p + (w - 1 - t))) u (rw (← o, ← z, ← y) lo) in
    record {
      before = packed_none f p (w - 1 - t) a;
      here = v;
      rest = rw (y, z, o, v) (omega arith);
    }
  where
    one_more : (t : ℕ) → suc t ≡ 1 + t
    one_more t = omega arith

    no-high : (a m r : ℕ) → a * m + r < m → a ≡ 0
    no-high zero m r h = refl
    no-high (suc a) m r h = absurd (omega (arith, native.Mathlib.Nat.suc-mul a m))

    high_one : (d m r : ℕ) → d < 2 → r < m → m ≤ d * m + r → d ≡ 1
    high_one zero m r h g k = absurd (omega (arith, zero-mul m))
    high_one (suc zero) m r h g k = refl
    high_one (suc (suc d)) m r h g k = absurd (omega arith)
