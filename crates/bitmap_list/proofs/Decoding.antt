-- The members of one container: a dense one's are written bit by bit, each at the place after those before it.
-- Assumes nothing.
use mathlib.Core.Path.{◌≡◌, refl, sym, ap, ap₂, ◌∙◌}
use mathlib.Core.Bool.{Bool}
use mathlib.Core.List.{List, [], ◌∷◌, ◌++◌}
use Prim.Native.Nat.{ℕ, zero, suc, ◌+◌, ◌-◌, ◌*◌, ◌/◌, ◌%◌, ◌^◌, ◌≤◌, ◌<◌}
use native.Mathlib.Nat.{add-zero, zero-add, le_refl, not-suc-le-zero, le_of_suc-le-suc}
use native.Mathlib.Numerals.{add-one}
use native.Mathlib.Omega.{arith}
use lib.ListN.{length, get_or, take, drop, set, length-set}
use lib.Seq.{take-suc-set, take-set-le, length-take-le, get_or-take, get_or-drop}
use lib.Dec.{eqb}
use Rattle.common.specs.Outcome.{pick}
use Rattle.common.specs.Lists.{from, keep}
use Rattle.bitmap_spec.specs.Bits.{bit}
use Rattle.bitmap_spec.specs.Judge.{dense, container}
use Rattle.bitmap_spec.proofs.Tally.{bit_at, bit-lt}
use Rattle.bitmap_laws.proofs.Cuts.{two_runs}
use Rattle.bitmap_read.proofs.Containers.{sparse-is, dense-is}
use Rattle.bitmap_list.specs.Post.{Decoded, Spread}

pub append-none : (l : List ℕ) → l ++ [] ≡ l
append-none [] = refl
append-none (x ∷ xs) = ap (λ (t : List ℕ). x ∷ t) (append-none xs)

last_one : (f : ℕ → Bool) (k : ℕ) → keep f (from k 1) ≡ pick (f k) (k ∷ []) []
unfolding keep from
last_one f k = refl

none_yet : (f : ℕ → Bool) (k : ℕ) → keep f (from k 0) ≡ []
unfolding keep from
none_yet f k = refl

pub spread_none : (s : List ℕ) (at : ℕ) (out : List ℕ) → length out ≡ 256 → Spread s at out 0 0
spread_none s at out e = record { upto = omega arith; less = omega arith; long = e; is = sym (none_yet (λ i. eqb (bit s (at * 8 + i)) 1) 0) }

module _ (s : List ℕ) (at : ℕ) (out : List ℕ) (n j : ℕ) (h : Spread s at out n j) where
  pub bit-here : get_or s (at + j / 8) 0 / 2 ^ (7 - j % 8) % 2 ≡ bit s (at * 8 + j)
  bit-here =
      let e : at * 8 + j ≡ (at + j / 8) * 8 + j % 8 = omega arith in
      rw e (sym (bit_at s (at + j / 8) (j % 8) (omega arith)))

  grow : (b : ℕ) → b < 2 → n < length out → take (n + b) (set out n j) ≡ take n out ++ pick (eqb b 1) (j ∷ []) []
  grow zero l g = rw (add-zero n, take-set-le n out n j (le_refl n)) (sym (append-none (take n out)))
  grow (suc zero) l g = rw (add-one n) (take-suc-set out n j g)
  grow (suc (suc b)) l g = absurd (not-suc-le-zero (le_of_suc-le-suc (le_of_suc-le-suc l)))

  pub spread-more : (b : ℕ) → j < 256 → b ≡ get_or s (at + j / 8) 0 / 2 ^ (7 - j % 8) % 2 → Spread s at (set out n j) (n + b) (j + 1)
  spread-more b l e =
      let q : b ≡ bit s (at * 8 + j) = e ∙ bit-here in
      let small : b < 2 = rw q (bit-lt s (at * 8 + j)) in
      record {
        upto = omega arith;
        less = omega (arith, h.less);
        long = length-set out n j ∙ h.long;
        is =
            grow b small (omega (arith, h.less, h.long))
            ∙ ap₂ (λ (x y : List ℕ). x ++ y) h.is (sym (last_one (λ i. eqb (bit s (at * 8 + i)) 1) (0 + j) ∙ rw (zero-add j, ← q)))
            ∙ sym (two_runs (λ i. eqb (bit s (at * 8 + i)) 1) 0 j 1);
      }

  -- the same, of bit i of byte q
  pub spread-bit : (q i b : ℕ) → q < 32 → i < 8 → j ≡ q * 8 + i → b ≡ get_or s (at + q) 0 / 2 ^ (7 - i % 8) % 2 → Spread s at (set out n j) (n + b) (j + 1)
  spread-bit q i b l g e p =
      let f : j / 8 ≡ q = omega arith in
      let h : j % 8 ≡ i % 8 = omega arith in
      spread-more b (omega arith) (rw (f, h) p)

  pub spread-all : 256 ≤ j → (n ≡ length (dense s at)) × (take n out ≡ dense s at)
  unfolding dense
  spread-all l =
      let e : j ≡ 256 = omega (arith, h.upto) in
      let q : take n out ≡ keep (λ i. eqb (bit s (at * 8 + i)) 1) (from 0 256) = rw (← e) h.is in
      (sym (length-take-le n out (omega (arith, h.less, h.long))) ∙ ap length q, q)

-- member j of a container
module _ (s : List ℕ) (at d j : ℕ) where
  pub sparse-member : d < 32 → j < d → get_or s (at + j) 0 ≡ get_or (container s at d) j 0
  sparse-member h l = rw (← sparse-is s at d h, get_or-take d (drop at s) j 0 l, get_or-drop at s j 0)

  pub dense-member : (out : List ℕ) → 32 ≤ d → Decoded s at d out → j < length (container s at d) → get_or out j 0 ≡ get_or (container s at d) j 0
  dense-member out h e l =
      let q = dense-is s at d h in
      let m : j < length (dense s at) = rw q l in
      rw (← q) (sym (get_or-take (length (dense s at)) out j 0 m) ∙ ap (λ (t : List ℕ). get_or t j 0) (e h))
