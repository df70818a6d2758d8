-- The zeros at the low end of a word are those of its first bytes.
-- Assumes nothing.
use mathlib.Core.Path.{◌≡◌, refl, sym, ap, ◌∙◌}
use mathlib.Core.List.{List}
use Prim.Native.Nat.{ℕ, zero, suc, ◌+◌, ◌*◌, ◌/◌, ◌%◌, ◌^◌, ◌≤◌, ◌<◌}
use native.Mathlib.Nat.{add-zero, mul-one, mul-suc, div-one, div-div-eq-div-mul, mul_left_comm, mul_assoc, pow-suc, pow-succ'}
use native.Mathlib.Omega.{arith}
use lib.Count.{count_trailing_zeros, trailing_le, under}
use lib.ListN.{get_or}
use lib.Pow.{pow-add}
use Rattle.common.specs.Bytes.{little_at}

-- a number is a multiple of the power of two that its zeros at the low end say
pub trailing-whole : (k n : ℕ) → n / 2 ^ count_trailing_zeros k n * 2 ^ count_trailing_zeros k n ≡ n
unfolding count_trailing_zeros
trailing-whole zero n = mul-one (n / 1) ∙ div-one n
trailing-whole (suc k) n = go (n % 2) refl (trailing-whole k (n / 2))
  where
    go : (r : ℕ) → n % 2 ≡ r → n / 2 / 2 ^ count_trailing_zeros k (n / 2) * 2 ^ count_trailing_zeros k (n / 2) ≡ n / 2
        → n / 2 ^ under r (count_trailing_zeros k (n / 2)) * 2 ^ under r (count_trailing_zeros k (n / 2)) ≡ n
    go zero e rest =
        let t = count_trailing_zeros k (n / 2) in
        ap (λ (x : ℕ). n / x * x) (pow-succ' 2 t)
        ∙ ap (λ (x : ℕ). x * (2 * 2 ^ t)) (sym (div-div-eq-div-mul n 2 (2 ^ t)))
        ∙ mul_left_comm (n / 2 / 2 ^ t) 2 (2 ^ t)
        ∙ ap (λ (x : ℕ). 2 * x) rest
        ∙ (omega arith)
    go (suc r) e rest = mul-one (n / 1) ∙ div-one n

-- eight binary digits are a byte
pow-bytes : (m : ℕ) → 2 ^ (8 * m) ≡ 256 ^ m
pow-bytes zero = refl
pow-bytes (suc m) =
    ap (λ (x : ℕ). 2 ^ x) (mul-suc 8 m) ∙ pow-add 2 (8 * m) 8 ∙ ap (λ (x : ℕ). x * 256) (pow-bytes m)
    ∙ sym (pow-suc 256 m)

-- a word that is a multiple of 256 ^ m has m bytes of 0 at its low end
module _ (s : List ℕ) (small : (k : ℕ) → get_or s k 0 < 256) where
  pub bytes-empty : (m n at q : ℕ) → m ≤ n → little_at s at n ≡ q * 256 ^ m → (j : ℕ) → j < m → get_or s (at + j) 0 ≡ 0
  unfolding little_at
  bytes-empty zero n at q h e j l = absurd (omega arith)
  bytes-empty (suc m) zero at q h e j l = absurd (omega arith)
  bytes-empty (suc m) (suc n) at q h e zero l =
      let e' : get_or s at 0 + 256 * little_at s (at + 1) n ≡ 256 * (q * 256 ^ m) = e ∙ ap (λ (x : ℕ). q * x) (pow-succ' 256 m) ∙ mul_left_comm q 256 (256 ^ m) in
      let z : get_or s at 0 ≡ 0 = omega (arith, e', small at) in
      rw (add-zero at) z
  bytes-empty (suc m) (suc n) at q h e (suc j) l =
      let e' : get_or s at 0 + 256 * little_at s (at + 1) n ≡ 256 * (q * 256 ^ m) = e ∙ ap (λ (x : ℕ). q * x) (pow-succ' 256 m) ∙ mul_left_comm q 256 (256 ^ m) in
      let r : little_at s (at + 1) n ≡ q * 256 ^ m = omega (arith, e', small at) in
      let p : at + suc j ≡ (at + 1) + j = omega arith in
      rw p (bytes-empty m n (at + 1) q (omega arith) r j (omega arith))

  -- as many as there are whole bytes of zeros
  pub empty-low : (n at j : ℕ) → j < count_trailing_zeros (8 * n) (little_at s at n) / 8 → get_or s (at + j) 0 ≡ 0
  empty-low n at j l =
      let v = little_at s at n in
      let t = count_trailing_zeros (8 * n) v in
      let m = t / 8 in
      let split : t ≡ t % 8 + 8 * m = omega arith in
      let pow : 2 ^ t ≡ 2 ^ (t % 8) * 256 ^ m = ap (λ (x : ℕ). 2 ^ x) split ∙ pow-add 2 (t % 8) (8 * m) ∙ ap (λ (x : ℕ). 2 ^ (t % 8) * x) (pow-bytes m) in
      let whole : v ≡ v / 2 ^ t * 2 ^ (t % 8) * 256 ^ m = sym (trailing-whole (8 * n) v) ∙ ap (λ (x : ℕ). v / 2 ^ t * x) pow ∙ sym (mul_assoc (v / 2 ^ t) (2 ^ (t % 8)) (256 ^ m)) in
      bytes-empty m n at (v / 2 ^ t * 2 ^ (t % 8)) (omega (arith, trailing_le (8 * n) v)) whole j l
