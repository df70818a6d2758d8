-- An accepted container's bytes are those of its written form: a list of bytes is told by its bits.
-- Assumes nothing.
use mathlib.Core.Path.{◌≡◌, sym, ap, ◌∙◌}
use mathlib.Core.Logic.{⊎_elim}
use mathlib.Core.Bool.{true}
use mathlib.Core.List.{List}
use Prim.Native.Nat.{ℕ, ◌+◌, ◌-◌, ◌*◌, ◌/◌, ◌%◌, ◌^◌, ◌≤◌, ◌<◌}
use native.Mathlib.Nat.{zero-add}
use native.Mathlib.Omega.{arith}
use borrow.Author.Tests.{leb-true, lt-ltb, le-ltb}
use lib.Dec.{eqb}
use lib.ListN.{length, get_or, take, drop, length-drop}
use lib.Seq.{ext_get_or, get_or-take, get_or-drop, length-take-le}
use Rattle.common.specs.Lists.{mem}
use Rattle.common.specs.Outcome.{one}
use Rattle.bitmap_spec.specs.Bits.{bit, packed, bytes_of}
use Rattle.bitmap_spec.specs.Form.{write_container}
use Rattle.bitmap_spec.specs.Judge.{container, container_ok, dense, size_of}
use Rattle.bitmap_spec.proofs.Tally.{bit_at, bit-lt, one-eqb}
use Rattle.bitmap_spec.proofs.Window.{below_or}
use Rattle.bitmap_laws.proofs.Members.{mem-keep}
use Rattle.bitmap_laws.proofs.Pack.{get_or-table, length-bytes_of, packed-same, packed-digits}

pub by_bits : (b : List ℕ) (f : ℕ → ℕ) (n : ℕ) → length b ≡ n → ((i : ℕ) → i < n → get_or b i 0 < 256)
    → ((p : ℕ) → p < n * 8 → bit b p ≡ f p) → b ≡ bytes_of f n
unfolding bytes_of
by_bits b f n e small is = ext_get_or 0 b (bytes_of f n) (e ∙ sym (length-bytes_of f n)) (λ i l. at i (rw e at l))
  where
    at : (i : ℕ) → i < n → get_or b i 0 ≡ get_or (bytes_of f n) i 0
    at i l =
        rw (get_or-table (λ i. packed f (i * 8) 8) 0 n i l, zero-add)
        (sym (packed-digits 8 (get_or b i 0) (small i l))
        ∙ packed-same (λ j. get_or b i 0 / 2 ^ (7 - j) % 2) f 0 (i * 8) 8
        (λ j m. rw (zero-add j) (sym (bit_at b i j m) ∙ is (i * 8 + j) (omega arith))))

-- ---- how many bytes a container has
pub size_low : (d : ℕ) → d < 32 → size_of d ≡ d
unfolding size_of
size_low d h = rw (lt-ltb d 32 h)

pub size-high : (d : ℕ) → 32 ≤ d → size_of d ≡ 32
unfolding size_of
size-high d h = rw (le-ltb d 32 h)

-- ---- the written form of few members, and of many
pub short : (c : List ℕ) → length c < 32 → write_container c ≡ c
unfolding write_container
short c h = rw (lt-ltb (length c) 32 h)

long : (c : List ℕ) → 32 ≤ length c → write_container c ≡ bytes_of (λ p. one (mem p c)) 32
unfolding write_container
long c h = rw (le-ltb (length c) 32 h)

-- ---- an accepted container
module _ (s : List ℕ) (at : ℕ) where
  -- 32 bytes of a list say the members that are read from them
  block_same : at + 32 ≤ length s → ((k : ℕ) → get_or s k 0 < 256)
      → take 32 (drop at s) ≡ bytes_of (λ p. one (mem p (dense s at))) 32
  unfolding dense bit
  block_same room small =
      by_bits (take 32 (drop at s)) (λ p. one (mem p (dense s at))) 32
      (length-take-le 32 (drop at s) (rw length-drop (omega arith))) (λ i l. rw (byte i l) (small (at + i)))
      (λ p l. let a : (at * 8 + p) / 8 ≡ at + p / 8 = omega arith in
      let m : (at * 8 + p) % 8 ≡ p % 8 = omega arith in
      sym (ap one (mem-keep (λ j. eqb (bit s (at * 8 + j)) 1) 0 256 p (omega arith) (omega arith))
      ∙ one-eqb (bit s (at * 8 + p)) (bit-lt s (at * 8 + p)) ∙ rw (a, m, byte (p / 8) (omega arith))))
    where
      byte : (k : ℕ) → k < 32 → get_or (take 32 (drop at s)) k 0 ≡ get_or s (at + k) 0
      byte k l = get_or-take 32 (drop at s) k 0 l ∙ get_or-drop at s k 0

  module _ (d : ℕ) (room : at + size_of d ≤ length s) (ok : container_ok s at d ≡ true)
      (small : (k : ℕ) → get_or s k 0 < 256) where
    low : d < 32 → write_container (container s at d) ≡ take (size_of d) (drop at s)
    unfolding container
    low h =
        let n : length (take d (drop at s)) ≡ d =
        length-take-le d (drop at s) (rw length-drop (omega (arith, size_low d h))) in
        rw (lt-ltb d 32 h, size_low d h) (short (take d (drop at s)) (rw n h))

    many : 32 ≤ d → 32 ≤ length (container s at d)
    unfolding container_ok
    many h = leb-true 32 _ (rw (le-ltb d 32 h) at ok)

    is-dense : 32 ≤ d → container s at d ≡ dense s at
    unfolding container
    is-dense h = rw (le-ltb d 32 h)

    high : 32 ≤ d → write_container (container s at d) ≡ take (size_of d) (drop at s)
    high h =
        long (container s at d) (many h) ∙ ap (λ (c : List ℕ). bytes_of (λ p. one (mem p c)) 32) (is-dense h)
        ∙ sym (block_same (omega (arith, size-high d h)) small) ∙ rw (size-high d h)

    pub bytes-are : write_container (container s at d) ≡ take (size_of d) (drop at s)
    bytes-are = ⊎_elim low high (below_or d 32)
