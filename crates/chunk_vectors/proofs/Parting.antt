-- One exception more adds its part to the value that its offset names, and nothing to any other.
-- Assumes nothing.
use mathlib.Core.Path.{◌≡◌, refl, sym}
use mathlib.Core.List.{List}
use Prim.Native.Nat.{ℕ, ◌+◌, ◌*◌, ◌%◌, ◌^◌, ◌≤◌, ◌<◌}
use native.Mathlib.Nat.{add-zero, lt_of_lt_of_le}
use native.Mathlib.Numerals.{add-one}
use native.Mathlib.Omega.{arith}
use borrow.Author.Tests.{eq-eqb, ne_eqb}
use lib.ListN.{get_or}
use lib.Pow.{pow_mono}
use Rattle.bitmap_spec.specs.Bits.{value}
use Rattle.bitmap_spec.specs.Judge.{part, descriptor}
use Rattle.bitmap_spec.specs.declared.ChunkHead.{ChunkHead}
use Rattle.bitmap_spec.proofs.Window.{shifted_one}

-- after k exceptions
pub record Parting (s : List ℕ) (h : ChunkHead) (i sum k : ℕ) : Type 0 where
  pub upto : k ≤ h.e
  pub is : sum ≡ part s h k i
  pub small : sum ≤ k * 255

module _ (s : List ℕ) (h : ChunkHead) (i : ℕ) where
  pub none : Parting s h i 0 0
  unfolding part
  none = record { upto = omega arith; is = refl; small = omega arith }

  module _ (sum k : ℕ) (g : Parting s h i sum k) (l : k < h.e) where
    pub hit : (v : ℕ) → h.b2 ≤ 8 → get_or s (h.offsets + k) 0 ≡ i → v ≡ value s h.parts h.b2 k → v < 2 ^ h.b2 → Parting s h i (sum + v) (k + 1)
    unfolding part
    hit v w p q b = record {
      upto = omega arith;
      is = rw (add-one k, eq-eqb (get_or s (h.offsets + k) 0) i p, g.is, q);
      small = omega (arith, g.small, lt_of_lt_of_le b (pow_mono {j = 8} w));
    }

    pub miss : (get_or s (h.offsets + k) 0 ≡ i → ⊥) → Parting s h i sum (k + 1)
    unfolding part
    miss p = record {
      upto = omega arith;
      is = rw (add-one k, ne_eqb (get_or s (h.offsets + k) 0) i p, g.is) (sym (add-zero (part s h k i)));
      small = omega (arith, g.small);
    }

pub total : (s : List ℕ) (h : ChunkHead) (i v x : ℕ) → h.b1 ≤ 8 → v ≡ value s h.primary h.b1 i → x ≡ part s h h.e i
    → h.m + v + x * (1 * 2 ^ h.b1 % 4294967296) ≡ descriptor s h i
unfolding descriptor
total s h i v x w a b = rw (shifted_one h.b1 w, a, b)
