-- The part that exceptions add to a value.
-- Assumes nothing.
use mathlib.Core.Path.{◌≡◌, refl, sym}
use mathlib.Core.Logic.{⊎_elim}
use mathlib.Core.List.{List}
use Prim.Native.Nat.{ℕ, zero, suc, ◌+◌, ◌*◌, ◌≤◌, ◌<◌}
use native.Mathlib.Nat.{add-zero, zero-add, not-suc-le-zero, le_of_suc-le-suc, eq-or-lt_of_le, mul-le-mul_right, mul-le-mul, suc-mul}
use native.Mathlib.Omega.{arith}
use borrow.Author.Tests.{eq-eqb, ne_eqb}
use lib.ListN.{get_or}
use Rattle.bitmap_spec.specs.Bits.{value}
use Rattle.bitmap_spec.specs.Judge.{part}
use Rattle.bitmap_spec.specs.declared.ChunkHead.{ChunkHead}

module _ (s : List ℕ) (h : ChunkHead) (i : ℕ) where
  pub part_none : (e : ℕ) → ((a : ℕ) → a < e → get_or s (h.offsets + a) 0 ≡ i → ⊥) → part s h e i ≡ 0
  unfolding part
  part_none zero off = refl
  part_none (suc e) off = rw (part_none e (λ a l. off a (omega arith)), ne_eqb _ _ (off e (omega arith)))

  pub part-one : (e j : ℕ) → j < e → get_or s (h.offsets + j) 0 ≡ i → ((a : ℕ) → a < e → get_or s (h.offsets + a) 0 ≡ i → a ≡ j) → part s h e i ≡ value s h.parts h.b2 j
  unfolding part
  part-one zero j l p only = absurd (not-suc-le-zero l)
  part-one (suc e) j l p only = ⊎_elim last (λ g. earlier g (part-one e j g p (λ a m r. only a (omega arith) r))) (eq-or-lt_of_le (le_of_suc-le-suc l))
    where
      last : j ≡ e → part s h (suc e) i ≡ value s h.parts h.b2 j
      last q =
          rw (part_none e (λ a g r. let z = only a (omega arith) r in omega arith), eq-eqb (get_or s (h.offsets + e) 0) i (rw (← q) p), q) (zero-add (value s h.parts h.b2 e))

      earlier : j < e → part s h e i ≡ value s h.parts h.b2 j → part s h (suc e) i ≡ value s h.parts h.b2 j
      earlier g ih =
          rw (ne_eqb (get_or s (h.offsets + e) 0) i (λ r. let z = only e (omega arith) r in omega arith), ih)
          (add-zero (value s h.parts h.b2 j))

-- value j of e lies within the e values
pub within : (e j w : ℕ) → j < e → j * w + w ≤ e * w
within e j w h = rw (sym (suc-mul j w)) (mul-le-mul_right w h)

-- a product under the product of the bounds
pub prod : (m n a b : ℕ) → a ≤ m → b ≤ n → a * b ≤ m * n
prod m n a b h g = mul-le-mul h g
