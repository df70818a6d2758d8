-- A container that is written is read back.
-- Assumes nothing.
use mathlib.Core.Path.{◌≡◌, refl, sym, ◌∙◌}
use mathlib.Core.Logic.{⊎_elim}
use mathlib.Core.Bool.{Bool, true, false}
use mathlib.Core.List.{List, ◌++◌}
use Prim.Native.Nat.{ℕ, zero, suc, ◌+◌, ◌*◌, ◌≤◌, ◌<◌, min}
use native.Mathlib.Nat.{zero-add, add-zero}
use native.Mathlib.Omega.{arith}
use borrow.Author.Tests.{lt-ltb, le-ltb}
use lib.Dec.{ltb, eqb}
use lib.ListN.{length, take, drop}
use lib.Seq.{drop_at, take_at}
use Rattle.common.specs.Lists.{keep, from, mem, rising}
use Rattle.common.specs.Outcome.{pick, one}
use Rattle.bitmap_spec.proofs.Window.{below_or}
use Rattle.bitmap_spec.specs.Bits.{bit, bytes_of}
use Rattle.bitmap_spec.specs.Form.{descriptor_of, write_container}
use Rattle.bitmap_spec.specs.Judge.{dense, container}
use Rattle.bitmap_laws.proofs.Members.{ext, rising-keep, mem-keep, mem-high}
use Rattle.bitmap_laws.proofs.Pack.{bit-after, bit-before, bit-bytes_of, length-bytes_of}

pub keep_same : (f g : ℕ → Bool) (k n : ℕ) → ((i : ℕ) → i < n → f (k + i) ≡ g (k + i)) → keep f (from k n) ≡ keep g (from k n)
unfolding keep from
keep_same f g k zero h = refl
keep_same f g k (suc n) h =
    let a : f k ≡ g k = rw (add-zero k) at (h 0 (omega arith)) in
    rw (a, keep_same f g (suc k) n (λ i l. let e : suc k + i ≡ k + suc i = omega arith in rw e (h (suc i) (omega arith))))

one-is : (b : Bool) → eqb (one b) 1 ≡ b
one-is true = refl
one-is false = refl

one-lt : (b : Bool) → one b < 2
one-lt true = omega arith
one-lt false = omega arith

module _ (c : List ℕ) (up : rising 256 0 c ≡ true) where
  -- a set's members, picked out of all positions by membership
  pub picked : keep (λ j. mem j c) (from 0 256) ≡ c
  picked = ext 256 0 (keep (λ j. mem j c) (from 0 256)) c (rising-keep (λ j. mem j c) 256 0 256 (omega arith)) up same
    where
      same : (z : ℕ) → mem z (keep (λ j. mem j c) (from 0 256)) ≡ mem z c
      same z =
          ⊎_elim (λ l. mem-keep (λ j. mem j c) 0 256 z (omega arith) (omega arith))
          (λ l. mem-high 256 0 (keep (λ j. mem j c) (from 0 256)) z (rising-keep (λ j. mem j c) 256 0 256 (omega arith)) l ∙ sym (mem-high 256 0 c z up l)) (below_or z 256)

  dense-back : (pre post : List ℕ) → dense (pre ++ (bytes_of (λ j. one (mem j c)) 32 ++ post)) (length pre) ≡ c
  unfolding dense
  dense-back pre post =
      keep_same (λ j. eqb (bit (pre ++ (bytes_of (λ j. one (mem j c)) 32 ++ post)) (length pre * 8 + j)) 1) (λ j. mem j c) 0 256 at ∙ picked
    where
      at : (i : ℕ) → i < 256 → eqb (bit (pre ++ (bytes_of (λ j. one (mem j c)) 32 ++ post)) (length pre * 8 + (0 + i))) 1 ≡ mem (0 + i) c
      at i l =
          rw (zero-add i, bit-after pre (bytes_of (λ j. one (mem j c)) 32 ++ post) i, bit-before (bytes_of (λ j. one (mem j c)) 32) post i (rw (length-bytes_of (λ j. one (mem j c)) 32) (omega arith)), bit-bytes_of (λ j. one (mem j c)) 32 i (λ j. one-lt (mem j c)) (omega arith))
          (one-is (mem i c))

  pub container-back : (pre post : List ℕ) → container (pre ++ (write_container c ++ post)) (length pre) (descriptor_of c) ≡ c
  unfolding container write_container descriptor_of
  container-back pre post = ⊎_elim sparse full (below_or (length c) 32)
    where
      sparse : length c < 32 → pick (ltb (min (length c) 32) 32) (take (min (length c) 32) (drop (length pre) (pre ++ (pick (ltb (length c) 32) c (bytes_of (λ j. one (mem j c)) 32) ++ post)))) (dense (pre ++ (pick (ltb (length c) 32) c (bytes_of (λ j. one (mem j c)) 32) ++ post)) (length pre)) ≡ c
      sparse l =
          let e : min (length c) 32 ≡ length c = omega arith in
          rw (e, lt-ltb _ _ l, drop_at pre (c ++ post) (length pre) refl) (take_at c post (length c) refl)

      full : 32 ≤ length c → pick (ltb (min (length c) 32) 32) (take (min (length c) 32) (drop (length pre) (pre ++ (pick (ltb (length c) 32) c (bytes_of (λ j. one (mem j c)) 32) ++ post)))) (dense (pre ++ (pick (ltb (length c) 32) c (bytes_of (λ j. one (mem j c)) 32) ++ post)) (length pre)) ≡ c
      full l =
          let e : min (length c) 32 ≡ 32 = omega arith in
          rw (e, le-ltb _ _ l) (dense-back pre post)
