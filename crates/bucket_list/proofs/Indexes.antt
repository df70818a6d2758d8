-- An index of up to 8 bits is a cut of the word that starts in its first byte.
-- Assumes nothing.
use mathlib.Core.Path.{◌≡◌, sym, ap, ◌∙◌}
use mathlib.Core.Bool.{Bool, true}
use mathlib.Core.List.{List}
use Prim.Native.Nat.{ℕ, ◌+◌, ◌-◌, ◌*◌, ◌/◌, ◌%◌, ◌^◌, ◌≤◌, ◌<◌}
use native.Mathlib.Nat.{pow-le-pow_right, zero-lt-suc}
use native.Mathlib.Omega.{arith}
use borrow.Author.Tests.{leb-true}
use lib.Bits.{bit_and}
use lib.Dec.{leb}
use lib.ListN.{length, get_or}
use Rattle.common.specs.Bytes.{little_at, low_bits}
use Rattle.common.proofs.LowBits.{bits_small}
use Rattle.bucket_piece.proofs.Words.{masked, word_cut}

-- the word's bytes are there
pub word-there : (s : List ℕ) (at i : ℕ) (t : Bool) → t ≡ leb (at + (i / 8 + 8)) (length s) → t ≡ true
    → at + i / 8 + 8 ≤ length s
word-there s at i t is e = omega (arith, leb-true (at + (i / 8 + 8)) (length s) (sym is ∙ e))

module _ (s : List ℕ) (at i w : ℕ) (narrow : w ≤ 8) where
  pub index-small : low_bits s at i w < 256
  index-small = omega (arith, bits_small s at i w, pow-le-pow_right {n = 2} (zero-lt-suc 1) narrow)

  pub index_word : ((k : ℕ) → get_or s k 0 < 256) → (word past : ℕ) → word ≡ little_at s (at + i / 8) 8 → past ≡ 2 ^ w
      → bit_and (word / 2 ^ (i % 8)) (past - 1) ≡ low_bits s at i w
  index_word small word past is power =
      let place : i / 8 * 8 + i % 8 ≡ i = omega arith in
      masked (word / 2 ^ (i % 8)) past w power ∙ ap (λ (x : ℕ). x / 2 ^ (i % 8) % 2 ^ w) is
      ∙ sym (word_cut s small at (i / 8) (i % 8) w (omega arith)) ∙ ap (λ (k : ℕ). low_bits s at k w) place
