-- The members of two blocks joined, counted by words: a word of the joined bytes is the two words joined, for each of
-- the machine's operations that acts byte by byte. Assumes nothing.
use mathlib.Core.Path.{◌≡◌, refl, ap, ap₂, ◌∙◌}
use mathlib.Core.Logic.{⊎_elim}
use mathlib.Core.Bool.{Bool, true, false}
use mathlib.Core.List.{List}
use Prim.Native.Nat.{ℕ, zero, suc, ◌+◌, ◌*◌, ◌^◌, ◌≤◌, ◌<◌}
use native.Mathlib.Nat.{add-zero}
use native.Mathlib.Omega.{arith}
use lib.Bits.{bit_and, bit_xor, and_block, xor_block, and_zero_r, and_mask, and_lt, xor_zero_l, xor_zero_r}
use lib.Count.{ones}
use lib.Dec.{eqb}
use lib.ListN.{length, get_or, get_or-eq_default}
use Rattle.common.specs.Bytes.{little_at}
use Rattle.common.specs.Lists.{keep, from}
use Rattle.common.specs.Outcome.{one}
use Rattle.bitmap_spec.specs.Bits.{bit}
use Rattle.bitmap_spec.specs.Judge.{dense}
use Rattle.bitmap_spec.specs.declared.Operation.{Operation}
use Rattle.bitmap_spec.specs.declared.Operation.TheVariants.{Intersection, Difference, SymmetricDifference}
use Rattle.bitmap_spec.proofs.Window.{below_or}
use Rattle.bitmap_laws.proofs.Containers.{keep_same}
use Rattle.bits.proofs.Words.{four-words}
use Rattle.blocks.specs.Block.{mask, mix, on_first, on_second, on_both, joined_bytes, joins, without, Counted}
use Rattle.blocks.proofs.Digits.{joined_at, joined-bit, joined_length, mix-lt}

mask-small : (b : Bool) → mask b < 256
unfolding mask
mask-small true = omega arith
mask-small false = omega arith

-- ---- the joined bytes, counted by words
module _ (o : Operation) (a : List ℕ) (at : ℕ) (b : List ℕ) (bt : ℕ) (sa : (k : ℕ) → get_or a k 0 < 256)
    (sb : (k : ℕ) → get_or b k 0 < 256) where
  abbrev Made : Operation → List ℕ → ℕ → List ℕ → ℕ → List ℕ
  Made o a at b bt = joined_bytes (mask (on_first o)) (mask (on_second o)) (mask (on_both o)) a at b bt 32

  byte-is : (k : ℕ) → k < 32
      → get_or (Made o a at b bt) k 0
      ≡ mix (mask (on_first o)) (mask (on_second o)) (mask (on_both o)) (get_or a (at + k) 0) (get_or b (bt + k) 0)
  byte-is k h = joined_at (mask (on_first o)) (mask (on_second o)) (mask (on_both o)) a at b bt 32 k h

  small : (k : ℕ) → get_or (Made o a at b bt) k 0 < 256
  small k = ⊎_elim
      (λ l. rw (byte-is k l) (mix-lt (mask (on_first o)) (mask (on_second o)) (mask (on_both o)) (get_or a (at + k) 0)
      (get_or b (bt + k) 0) (mask-small (on_first o)) (mask-small (on_second o)) (mask-small (on_both o)) (sa (at + k))
      (sb (bt + k))))
      (λ l. rw (get_or-eq_default (Made o a at b bt) 0 {n = k}
      (rw (joined_length (mask (on_first o)) (mask (on_second o)) (mask (on_both o)) a at b bt 32) l)) (omega arith))
      (below_or k 32)

  members : length (dense (Made o a at b bt) 0) ≡ length (keep (joins o a at b bt) (from 0 256))
  unfolding dense
  members =
      ap length
      (keep_same (λ j. eqb (bit (Made o a at b bt) (0 * 8 + j)) 1) (joins o a at b bt) 0 256 (λ i l. same i l))
    where
      back : (b : Bool) → eqb (one b) 1 ≡ b
      back true = refl
      back false = refl

      same : (i : ℕ) → i < 256 → eqb (bit (Made o a at b bt) (0 * 8 + (0 + i))) 1 ≡ joins o a at b bt (0 + i)
      same i l =
          let e : 0 * 8 + (0 + i) ≡ 0 + i = omega arith in
          rw (e, joined-bit o a at b bt (0 + i) (omega arith)) (back (joins o a at b bt (0 + i)))

  module _ (op : ℕ → ℕ → ℕ) (none : op 0 0 ≡ 0)
      (cat : (x y r s : ℕ) → r < 256 → s < 256 → op (x * 2 ^ 8 + r) (y * 2 ^ 8 + s) ≡ op x y * 2 ^ 8 + op r s)
      (is : (x y : ℕ) → x < 256 → y < 256
      → mix (mask (on_first o)) (mask (on_second o)) (mask (on_both o)) x y ≡ op x y) where
    word-is : (k n : ℕ) → k + n ≤ 32
        → op (little_at a (at + k) n) (little_at b (bt + k) n) ≡ little_at (Made o a at b bt) k n
    unfolding little_at
    word-is k zero h = none
    word-is k (suc n) h =
        let p : at + (k + 1) ≡ at + k + 1 = omega arith in
        let q : bt + (k + 1) ≡ bt + k + 1 = omega arith in
        let ih = rw (p, q) at (word-is (k + 1) n (omega arith)) in
        let x = get_or a (at + k) 0 in
        let y = get_or b (bt + k) 0 in
        let us = little_at a (at + k + 1) n in
        let vs = little_at b (bt + k + 1) n in
        let u : x + 256 * us ≡ us * 2 ^ 8 + x = omega arith in
        let v : y + 256 * vs ≡ vs * 2 ^ 8 + y = omega arith in
        let low = byte-is k (omega arith) ∙ is x y (sa (at + k)) (sb (bt + k)) in
        ap₂ op u v
        ∙ cat us vs x y (sa (at + k)) (sb (bt + k))
        ∙ omega (arith, ih, low)

    first : op (little_at a at 8) (little_at b bt 8) ≡ little_at (Made o a at b bt) 0 8
    first = rw (add-zero at, add-zero bt) at (word-is 0 8 (omega arith))

    four : ones (op (little_at a at 8) (little_at b bt 8)) + ones (op (little_at a (at + 8) 8) (little_at b (bt + 8) 8))
        + ones (op (little_at a (at + 16) 8) (little_at b (bt + 16) 8))
        + ones (op (little_at a (at + 24) 8) (little_at b (bt + 24) 8)) ≡ length (keep (joins o a at b bt) (from 0 256))
    four =
        rw (first, word-is 8 8 (omega arith), word-is 16 8 (omega arith), word-is 24 8 (omega arith))
        (four-words (Made o a at b bt) small 0 ∙ members)

-- ---- the operations
pub counted : (op : ℕ → ℕ → ℕ) (a : List ℕ) (at : ℕ) (b : List ℕ) (bt n : ℕ)
    → Counted (λ x y r. r ≡ op x y) a at b bt n
    → n ≡ ones (op (little_at a at 8) (little_at b bt 8)) + ones (op (little_at a (at + 8) 8) (little_at b (bt + 8) 8))
    + ones (op (little_at a (at + 16) 8) (little_at b (bt + 16) 8))
    + ones (op (little_at a (at + 24) 8) (little_at b (bt + 24) 8))
counted op a at b bt n c = rw (← c.4, ← c.5, ← c.6, ← c.7) c.8

full : (x : ℕ) → x < 256 → bit_and x 255 ≡ x
full x h = and_mask x 8 ∙ omega arith

module _ (a : List ℕ) (at : ℕ) (b : List ℕ) (bt : ℕ) (sa : (k : ℕ) → get_or a k 0 < 256)
    (sb : (k : ℕ) → get_or b k 0 < 256) where
  pub four-and : ones (bit_and (little_at a at 8) (little_at b bt 8))
      + ones (bit_and (little_at a (at + 8) 8) (little_at b (bt + 8) 8))
      + ones (bit_and (little_at a (at + 16) 8) (little_at b (bt + 16) 8))
      + ones (bit_and (little_at a (at + 24) 8) (little_at b (bt + 24) 8))
      ≡ length (keep (joins Intersection a at b bt) (from 0 256))
  unfolding mask mix on_first on_second on_both
  four-and =
      four Intersection a at b bt sa sb (λ x y. bit_and x y) (and_zero_r 0) (λ x y r s. and_block 8 x y r s)
      (λ x y p q. rw (and_zero_r x, and_zero_r y) (xor_zero_l (bit_and (bit_and x y) 255)
      ∙ full (bit_and x y) (and_lt 8 x y p q)))

  pub four-without : ones (without (little_at a at 8) (little_at b bt 8))
      + ones (without (little_at a (at + 8) 8) (little_at b (bt + 8) 8))
      + ones (without (little_at a (at + 16) 8) (little_at b (bt + 16) 8))
      + ones (without (little_at a (at + 24) 8) (little_at b (bt + 24) 8))
      ≡ length (keep (joins Difference a at b bt) (from 0 256))
  unfolding mask mix on_first on_second on_both
  four-without =
      four Difference a at b bt sa sb (λ x y. without x y) refl
      (λ x y r s p q. ap (λ (z : ℕ). bit_xor (x * 2 ^ 8 + r) z) (and_block 8 x y r s p q)
      ∙ xor_block 8 x (bit_and x y) r (bit_and r s) p (and_lt 8 r s p q))
      (λ x y p q. ap₂ (λ (u v : ℕ). bit_xor u v)
      (ap₂ (λ (u v : ℕ). bit_xor u v) (full x p) (and_zero_r y) ∙ xor_zero_r x)
      (full (bit_and x y) (and_lt 8 x y p q)))

  pub four-xor : ones (bit_xor (little_at a at 8) (little_at b bt 8))
      + ones (bit_xor (little_at a (at + 8) 8) (little_at b (bt + 8) 8))
      + ones (bit_xor (little_at a (at + 16) 8) (little_at b (bt + 16) 8))
      + ones (bit_xor (little_at a (at + 24) 8) (little_at b (bt + 24) 8))
      ≡ length (keep (joins SymmetricDifference a at b bt) (from 0 256))
  unfolding mask mix on_first on_second on_both
  four-xor =
      four SymmetricDifference a at b bt sa sb (λ x y. bit_xor x y) refl (λ x y r s. xor_block 8 x y r s)
      (λ x y p q. ap₂ (λ (u v : ℕ). bit_xor u v) (ap₂ (λ (u v : ℕ). bit_xor u v) (full x p) (full y q))
      (and_zero_r (bit_and x y)) ∙ xor_zero_r (bit_xor x y))
