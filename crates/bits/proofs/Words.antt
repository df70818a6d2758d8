-- The ones of a number of bytes, lowest first, are the set bits of those bytes; so the four words of any 32 bytes have
-- as many ones as the dense container of these bytes has members. Assumes nothing.
use mathlib.Core.Path.{◌≡◌, refl, ap, ◌∙◌}
use mathlib.Core.List.{List}
use Prim.Native.Nat.{ℕ, suc, ◌+◌, ◌*◌, ◌<◌}
use native.Mathlib.Omega.{arith}
use lib.ListN.{length, get_or}
use lib.Count.{ones}
use Rattle.common.specs.Bytes.{little_at}
use Rattle.bitmap_spec.specs.Bits.{bit}
use Rattle.bitmap_spec.specs.Judge.{dense}
use Rattle.bitmap_spec.proofs.Tally.{tally, tally-cat, tally-byte, dense-length}
use Rattle.words.proofs.Words.{ones-bytes}

module _ (s : List ℕ) (small : (k : ℕ) → get_or s k 0 < 256) where
  -- the set bits of one byte more
  more : (at n : ℕ) → tally (bit s) (at * 8) (suc n * 8) ≡ ones (get_or s at 0) + tally (bit s) ((at + 1) * 8) (n * 8)
  more at n =
      let bits : suc n * 8 ≡ 8 + n * 8 = omega arith in
      let next : (at + 1) * 8 ≡ at * 8 + 8 = omega arith in
      rw (bits, next) (omega (arith, tally-cat (bit s) (at * 8) 8 (n * 8), tally-byte s at (small at)))

  -- for any number of bytes
  pub ones-tally-bytes : (at n : ℕ) → ones (little_at s at n) ≡ tally (bit s) (at * 8) (n * 8)
  unfolding tally
  ones-tally-bytes = ones-bytes s small (λ at n. tally (bit s) (at * 8) (n * 8)) (λ at. refl) more

  -- a word, by the place of its first bit
  word : (at p : ℕ) → at * 8 ≡ p → ones (little_at s at 8) ≡ tally (bit s) p 64
  word at p e = ones-tally-bytes at 8 ∙ ap (λ (x : ℕ). tally (bit s) x 64) e

  -- any 32 bytes, those of s from at on: the ones of their four words add up to the number of members
  pub four-words : (at : ℕ)
      → ones (little_at s at 8) + ones (little_at s (at + 8) 8)
      + ones (little_at s (at + 16) 8) + ones (little_at s (at + 24) 8) ≡ length (dense s at)
  four-words at =
      let second = at * 8 + 64 in
      let third = second + 64 in
      let fourth = third + 64 in
      omega (
        arith,
        word at (at * 8) refl,
        word (at + 8) second (omega arith),
        word (at + 16) third (omega arith),
        word (at + 24) fourth (omega arith),
        tally-cat (bit s) (at * 8) 64 192,
        tally-cat (bit s) second 64 128,
        tally-cat (bit s) third 64 64,
        dense-length s at,
      )
