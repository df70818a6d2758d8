-- A chunk's head compared, part by part, with that of the written chunk.
-- Assumes nothing.
use mathlib.Core.Path.{◌≡◌, sym, ap, ◌∙◌}
use mathlib.Core.Bool.{false}
use mathlib.Core.List.{List, map}
use Prim.Native.Nat.{ℕ, ◌-◌}
use native.Mathlib.Omega.{arith}
use borrow.Author.Tests.{eq-eqb, ne_eqb}
use lib.Dec.{eqb}
use lib.ListN.{length}
use Rattle.common.specs.Outcome.{pick, both}
use Rattle.bitmap_spec.specs.Form.{least, largest, width, wider, cheapest}
use Rattle.bitmap_spec.specs.declared.ChunkHead.{ChunkHead}
use Rattle.bitmap_laws.proofs.Length.{none-wider}
use Rattle.form_check.specs.Heads.{head_of, head_is}

-- the head of one value, and of no width
flat-head : (h : ChunkHead) (vs : List ℕ) (m : ℕ) → largest (map width vs) ≡ 0
    → head_of h vs m (cheapest vs (largest (map width vs)))
    ≡ both (eqb h.m m) (both (eqb h.b1 0) (both (eqb h.e 0) (eqb h.b2 0)))
unfolding head_of cheapest
flat-head h vs m e = rw (e, none-wider 0 vs (omega arith))

module _ (h : ChunkHead) (ds : List ℕ) (m : ℕ) (is : m ≡ least ds) where
  -- the least as a number of its own
  head-by : head_is h ds
      ≡ head_of h (map (λ d. d - m) ds) m (cheapest (map (λ d. d - m) ds) (largest (map width (map (λ d. d - m) ds))))
  unfolding head_is
  head-by =
      ap (λ x. head_of h (map (λ d. d - x) ds) x
      (cheapest (map (λ d. d - x) ds) (largest (map width (map (λ d. d - x) ds))))) (sym is)

  pub other-least : (h.m ≡ m → ⊥) → false ≡ head_is h ds
  unfolding head_of
  other-least n = rw (head-by, ne_eqb h.m m n)

  module _ (same : h.m ≡ m) (w : ℕ) (top : w ≡ largest (map width (map (λ d. d - m) ds))) where
    pub flat : w ≡ 0 → both (eqb h.b1 0) (both (eqb h.e 0) (eqb h.b2 0)) ≡ head_is h ds
    flat z = rw (head-by, flat-head h (map (λ d. d - m) ds) m (sym top ∙ z), eq-eqb h.m m same)

    module _ (b : ℕ) (best : b ≡ cheapest (map (λ d. d - m) ds) w) where
      chosen : head_is h ds ≡ head_of h (map (λ d. d - m) ds) m b
      chosen =
          head-by
          ∙ ap (head_of h (map (λ d. d - m) ds) m) (ap (cheapest (map (λ d. d - m) ds)) (sym top) ∙ sym best)

      pub other_width : (h.b1 ≡ b → ⊥) → false ≡ head_is h ds
      unfolding head_of
      other_width n = rw (chosen, eq-eqb h.m m same, ne_eqb h.b1 b n)

      pub by-exceptions : (e : ℕ) → h.b1 ≡ b → e ≡ length (wider b (map (λ d. d - m) ds))
          → both (eqb h.e e) (eqb h.b2 (pick (eqb e 0) 0 (w - b))) ≡ head_is h ds
      unfolding head_of
      by-exceptions e n many = rw (chosen, eq-eqb h.m m same, eq-eqb h.b1 b n, ← many, ← top)
