-- Two's complement, once for every width: what the code computes is `signed_of`. Assumes nothing.
use Prim.Native.Nat.{ℕ, zero, suc, ◌+◌, ◌-◌, ◌*◌, ◌<◌, ◌≤◌, ◌^◌}
use mathlib.Core.Path.{◌≡◌, refl, ap, ◌∙◌}
use native.Mathlib.Nat.{zero-add}
use mathlib.Core.Bool.{Bool, true, false}
use lib.Dec.{ltb}
use native.Mathlib.Omega.{arith}
use lib.IntN.{ℤ, pos, negsuc, ◌-ℤ◌}
use mir.Syntax.{w64}
use mir.Val.{to_z}
use mir.Facts.{to_z_pos}
use borrow.Author.Tests.{lt-ltb, le-ltb, ltb-true, ltb-false}
use Rattle.common.specs.Bytes.{signed_of}
use Rattle.common.specs.Outcome.{pick}
use Rattle.row_spec.specs.Page.{unsigned}

from-minus-one : (m : ℕ) → negsuc 0 -ℤ pos m ≡ negsuc m
from-minus-one zero = refl
from-minus-one (suc k) = ap (λ (n : ℕ). negsuc (suc n)) (zero-add k)

-- -1 - m, as the machine computes it
pub minus : (m : ℕ) → m < 2 ^ 63 → negsuc 0 -ℤ to_z w64 m ≡ negsuc m
minus m h = ap (λ (z : ℤ). negsuc 0 -ℤ z) (to_z_pos w64 h) ∙ from-minus-one m

pub below : (half n : ℕ) → n < half → signed_of half n ≡ pos n
unfolding signed_of
below half n h = ap (λ (t : Bool). pick t (pos n) (negsuc (2 * half - 1 - n))) (lt-ltb n half h)

pub above : (half n : ℕ) → half ≤ n → signed_of half n ≡ negsuc (2 * half - 1 - n)
unfolding signed_of
above half n h = ap (λ (t : Bool). pick t (pos n) (negsuc (2 * half - 1 - n))) (le-ltb n half h)

-- ---- the same number in 64 bits
module _ (half n : ℕ) where
  pub unsigned-below : n < half → unsigned (signed_of half n) ≡ n
  unfolding unsigned
  unsigned-below h = ap unsigned (below half n h)

  pub unsigned-above : half ≤ n → n < 2 * half → 2 * half ≤ 18446744073709551616
      → unsigned (signed_of half n) ≡ n + (18446744073709551616 - 2 * half)
  unfolding unsigned
  unsigned-above h less most = ap unsigned (above half n h) ∙ omega arith

-- 64 bits are their own
pub unsigned-word : (n : ℕ) → n < 18446744073709551616 → unsigned (signed_of 9223372036854775808 n) ≡ n
unsigned-word n h = by-test (ltb n 9223372036854775808) refl
  where
    by-test : (t : Bool) → ltb n 9223372036854775808 ≡ t → unsigned (signed_of 9223372036854775808 n) ≡ n
    by-test true e = unsigned-below 9223372036854775808 n (ltb-true n 9223372036854775808 e)
    by-test false e =
        let more = ltb-false n 9223372036854775808 e in
        unsigned-above 9223372036854775808 n more (omega arith) (omega arith) ∙ omega arith
