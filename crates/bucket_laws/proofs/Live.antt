-- Rows that are not null: their number never falls, and a row that is not null makes it one more.
-- Assumes nothing.
use mathlib.Core.Path.{◌≡◌, refl}
use mathlib.Core.Bool.{Bool, true, false}
use mathlib.Core.List.{List}
use Prim.Native.Nat.{ℕ, zero, suc, ◌+◌, ◌-◌, ◌≤◌, ◌<◌}
use native.Mathlib.Omega.{arith}
use borrow.Author.Tests.{eqb-true, eqb-false}
use lib.Dec.{eqb}
use Rattle.common.specs.Outcome.{pick, both}
use Rattle.common.specs.Bytes.{low_bit, low_count}
use Rattle.common.proofs.Outcomes.{clash}
use Rattle.common.proofs.LowBits.{bit-small, count-le}
use Rattle.bucket_spec.specs.Piece.{live}

module _ (s : List ℕ) (p : ℕ) where
  count_next : (k : ℕ) → low_count s p (suc k) ≡ low_count s p k + low_bit s p k
  unfolding low_count
  count_next k = refl

  pub live-none : (mapped : Bool) → live s mapped p 0 ≡ 0
  unfolding live
  live-none true = omega arith
  live-none false = refl

  pub live-le : (mapped : Bool) (k : ℕ) → live s mapped p k ≤ k
  unfolding live
  live-le true k = omega arith
  live-le false k = omega arith

  -- a row that is not null is one more
  pub live-next : (mapped : Bool) (k : ℕ) → (mapped ≡ true → low_bit s p k ≡ 1 → ⊥)
      → live s mapped p (suc k) ≡ suc (live s mapped p k)
  unfolding live
  live-next true k h =
      let z : low_bit s p k ≡ 0 = zero-or-one (bit-small s p k) (h refl) in
      omega (arith, count_next k, count-le s p k)
    where
      zero-or-one : {b : ℕ} → b < 2 → (b ≡ 1 → ⊥) → b ≡ 0
      zero-or-one {b} l q = omega arith
  live-next false k h = refl

  -- a null row is none
  pub live_same : (k : ℕ) → low_bit s p k ≡ 1 → live s true p (suc k) ≡ live s true p k
  unfolding live
  live_same k h = omega (arith, count_next k, count-le s p k)

  -- as a test
  pub live-turn : (mapped : Bool) (k : ℕ)
      → live s mapped p (suc k)
      ≡ pick (both mapped (eqb (low_bit s p k) 1)) (live s mapped p k) (suc (live s mapped p k))
  live-turn true k = by-test (eqb (low_bit s p k) 1) refl
    where
      by-test : (t : Bool) → eqb (low_bit s p k) 1 ≡ t
          → live s true p (suc k) ≡ pick t (live s true p k) (suc (live s true p k))
      by-test true e = live_same k (eqb-true (low_bit s p k) 1 e)
      by-test false e = live-next true k (λ m. eqb-false (low_bit s p k) 1 e)
  live-turn false k = live-next false k (λ m. clash (cc))

  live-step : (mapped : Bool) (k : ℕ) → live s mapped p k ≤ live s mapped p (suc k)
  unfolding live
  live-step true k = omega (arith, count_next k, bit-small s p k, count-le s p k)
  live-step false k = omega arith

  live-up : (mapped : Bool) (k d : ℕ) → live s mapped p k ≤ live s mapped p (k + d)
  live-up mapped k zero = let a : k + 0 ≡ k = omega arith in rw a (omega arith)
  live-up mapped k (suc d) =
      let a : k + suc d ≡ suc (k + d) = omega arith in
      rw a (omega (arith, live-up mapped k d, live-step mapped (k + d)))

  -- so its number is below that of all
  pub live-less : (mapped : Bool) (r n : ℕ) → r < n → (mapped ≡ true → low_bit s p r ≡ 1 → ⊥)
      → live s mapped p r < live s mapped p n
  live-less mapped r n h g =
      let a : suc r + (n - suc r) ≡ n = omega arith in
      let b = rw a at (live-up mapped (suc r) (n - suc r)) in
      omega (arith, live-next mapped r g, b)

  -- no bit is set where none is counted
  pub count_none : (n k : ℕ) → low_count s p n ≡ 0 → k < n → low_bit s p k ≡ 0
  count_none zero k e h = absurd (omega arith)
  count_none (suc n) k e h = by-test (count_none n k (omega (arith, count_next n))) (eqb k n) refl
    where
      by-test : (k < n → low_bit s p k ≡ 0) → (t : Bool) → eqb k n ≡ t → low_bit s p k ≡ 0
      by-test g true q = rw (eqb-true k n q) (omega (arith, count_next n))
      by-test g false q = g (let d = eqb-false k n q in omega arith)
