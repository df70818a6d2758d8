-- Bits taken by groups: eight values of w bits are w whole bytes.
-- Assumes nothing.
use mathlib.Core.Path.{◌≡◌, sym, ◌∙◌}
use mathlib.Core.List.{List}
use Prim.Native.Nat.{ℕ, zero, suc, ◌+◌, ◌-◌, ◌*◌, ◌/◌, ◌%◌, ◌^◌, ◌≤◌, ◌<◌}
use native.Mathlib.Nat.{add-zero, add-suc, add_assoc, mul-one, pow-suc, lt_of_lt_of_le, add-mul, mul-add, mul_comm}
use native.Mathlib.Nat.{mul_assoc, mul-le-mul, mul-le-mul_right, one-mul, mod-lt}
use native.Mathlib.Omega.{arith}
use lib.ListN.{get_or}
use lib.Pow.{high, low, pow_mono, pow_pos, shl_exact}
use Rattle.bitmap_spec.specs.Bits.{bits, value}
use Rattle.bitmap_spec.proofs.Window.{window, bits-lt, value_none}
use Rattle.chunk_read.specs.Post.{primary_of}

pub bits-cat : (s : List ℕ) (p a b : ℕ) → bits s p (a + b) ≡ bits s p a * 2 ^ b + bits s (p + a) b
unfolding bits
bits-cat s p a zero = rw (add-zero a, mul-one, add-zero)
bits-cat s p a (suc b) =
    rw (add-suc a b, bits-cat s p a b, pow-suc 2 b, add_assoc p a b) (omega (arith, mul_assoc (bits s p a) (2 ^ b) 2))

pub bits-byte : (s : List ℕ) (q : ℕ) → get_or s q 0 < 256 → bits s (q * 8) 8 ≡ get_or s q 0
bits-byte s q h =
    let e : q * 8 + 0 ≡ q * 8 = omega arith in
    let z = window s q 0 0 8 (omega arith) (omega arith) (λ g. absurd (omega arith)) in
    let y : bits s (q * 8) 8 ≡ (get_or s q 0 * 256 + 0) / 256 % 256 = rw e at z in
    omega (arith, y)

-- w bits inside of more
pub cut : (s : List ℕ) (p a w b : ℕ) → bits s (p + a) w ≡ bits s p (a + w + b) / 2 ^ b % 2 ^ w
cut s p a w b =
    sym
    (rw (bits-cat s p (a + w) b, high (bits s p (a + w)) b (bits-lt s (p + (a + w)) b), bits-cat s p a w)
    (low (bits s p a) w (bits-lt s (p + a) w)))

-- one byte more of a group
pub group-more : (s : List ℕ) (q i x : ℕ) → x ≡ bits s (q * 8) (i * 8) → get_or s (q + i) 0 < 256
    → x * 256 + get_or s (q + i) 0 ≡ bits s (q * 8) ((i + 1) * 8)
group-more s q i x e h =
    let a : (i + 1) * 8 ≡ i * 8 + 8 = omega arith in
    let b : q * 8 + i * 8 ≡ (q + i) * 8 = omega arith in
    rw (a, bits-cat s (q * 8) (i * 8) 8, b, bits-byte s (q + i) h, e)

pub group-fits : (s : List ℕ) (q i x : ℕ) → x ≡ bits s (q * 8) (i * 8) → i < 8 → x < 72057594037927936
group-fits s q i x e h = rw e (lt_of_lt_of_le (bits-lt s (q * 8) (i * 8)) (pow_mono {j = 56} (omega arith)))

-- value t of group g
pub value-group : (s : List ℕ) (at w g t x : ℕ) → x ≡ bits s ((at + g * w) * 8) (w * 8) → t < 8
    → x / 2 ^ (w * (7 - t)) % 2 ^ w ≡ value s at w (g * 8 + t)
unfolding value
value-group s at w g t x e h =
    let a : at * 8 + (g * 8 + t) * w ≡ (at + g * w) * 8 + t * w =
    rw (add-mul (g * 8) t w, mul_assoc g 8 w, mul_comm 8 w, ← mul_assoc g w 8) (omega arith) in
    let b : t + 1 + (7 - t) ≡ 8 = omega arith in
    let c : w * 8 ≡ t * w + w + w * (7 - t) = rw (← b, mul-add, mul-add, mul-one, mul_comm w t) in
    rw (a, e, c) (sym (cut s ((at + g * w) * 8) (t * w) w (w * (7 - t))))

-- a shifted 1 at 64 bits, and shifts of at most 56
pub shifted_one : (w : ℕ) → w ≤ 8 → 1 * 2 ^ w % 18446744073709551616 ≡ 2 ^ w
shifted_one w h = shl_exact {a = 1} 1 w 64 (omega arith) (omega arith) ∙ one-mul (2 ^ w)

pub short : (w t : ℕ) → w ≤ 8 → w * (7 - t) ≤ 56
short w t h = mul-le-mul {n₂ = 8} {m₂ = 7} h (omega arith)

pub narrow : (x w : ℕ) → w ≤ 8 → x % 2 ^ w < 256
narrow x w h = lt_of_lt_of_le (mod-lt x (pow_pos w)) (pow_mono {j = 8} h)

pub small-value : (v w : ℕ) → w ≤ 8 → v < 2 ^ w → v < 256
small-value v w h l = lt_of_lt_of_le l (pow_mono {j = 8} h)

-- the same of one bit: a group is a byte
pub value-byte : (s : List ℕ) (at g t : ℕ) → get_or s (at + g) 0 < 256 → t < 8
    → get_or s (at + g) 0 / 2 ^ (1 * (7 - t)) % 2 ^ 1 ≡ value s at 1 (g * 8 + t)
value-byte s at g t h l =
    let e : (at + g * 1) * 8 ≡ (at + g) * 8 = omega arith in
    value-group s at 1 g t (get_or s (at + g) 0) (rw e (sym (bits-byte s (at + g) h))) l

-- whole groups lie within the bytes of all values
pub whole_room : (at n w len : ℕ) → at * 8 + n * w ≤ len * 8 → at + n / 8 * w ≤ len
whole_room at n w len h =
    let l : n / 8 * 8 ≤ n = omega arith in
    let e : n / 8 * 8 * w ≡ n / 8 * w * 8 = rw (mul_assoc (n / 8) 8 w, mul_comm 8 w) (sym (mul_assoc (n / 8) w 8)) in
    omega (arith, e, mul-le-mul_right w l)

pub none-plain : (s : List ℕ) (at w m i : ℕ) → w ≡ 0 → m ≡ primary_of s at w m i
unfolding primary_of
none-plain s at w m i e = rw (value_none s at w i e) (sym (add-zero m))
