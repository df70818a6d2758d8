-- Which exception is a descriptor's, where the offsets are met in their order.
-- Assumes nothing.
use mathlib.Core.Path.{◌≡◌, refl, sym, ap, ◌∙◌}
use mathlib.Core.Bool.{Bool, true, false}
use mathlib.Core.Logic.{◌⊎◌, inl, inr}
use mathlib.Core.List.{List}
use Prim.Native.Nat.{ℕ, zero, suc, ◌+◌, ◌-◌, ◌*◌, ◌^◌, ◌≤◌, ◌<◌}
use native.Mathlib.Nat.{add-zero, zero-add}
use native.Mathlib.Omega.{arith}
use borrow.Author.Tests.{eqb-true, eqb-false}
use lib.Dec.{eqb}
use lib.ListN.{length, take, drop, length-drop}
use lib.Seq.{length-take-le, get_or-take, get_or-drop}
use Rattle.common.specs.Lists.{rising}
use Rattle.common.specs.Outcome.{one}
use Rattle.common.proofs.Lists.{rising-less}
use Rattle.bitmap_spec.specs.Bits.{value}
use Rattle.bitmap_spec.specs.Judge.{descriptor}
use Rattle.bitmap_spec.specs.declared.ChunkHead.{ChunkHead}
use Rattle.bitmap_spec.proofs.Window.{below_or}
use Rattle.chunk_read.specs.Post.{primary_of}
use Rattle.chunk_read.proofs.Patching.{upto, upto-none, upto_all, upto-hit, upto-miss}
use Rattle.bitmap_explain_chunk.specs.Post.{offset_of, Reached, Owns}

module _ (s : List ℕ) (h : ChunkHead) (i j : ℕ) where
  -- there is no exception j
  pub not_there : h.e ≤ j → Owns s h i j false
  not_there l = record { yes = λ e. absurd (let z : ◌≡◌ {A = ℕ} 0 1 = cc in omega arith); no = λ e m q. omega arith }

  -- there is one
  pub there : j < h.e → Owns s h i j (eqb (offset_of s h j) i)
  there l = record { yes = λ e. (l, eqb-true _ _ e); no = λ e m. eqb-false _ _ e }

-- exceptions of other descriptors add nothing
skipped : (s : List ℕ) (h : ChunkHead) (i j k : ℕ) → ((t : ℕ) → j ≤ t → t < j + k → offset_of s h t ≡ i → ⊥)
    → upto s h (j + k) i ≡ upto s h j i
skipped s h i j zero f = rw (add-zero j)
skipped s h i j (suc k) f =
    let a : j + suc k ≡ (j + k) + 1 = omega arith in
    rw a
    (upto-miss s h i (j + k) (f (j + k) (omega arith) (omega arith)) ∙ skipped s h i j k (λ t l m. f t l (omega arith)))

module _ (s : List ℕ) (h : ChunkHead) (i j : ℕ) (g : Reached s h i j) where
  -- those before exception j
  plain : upto s h j i ≡ primary_of s h.primary h.b1 h.m i
  plain = rw (← zero-add j) (skipped s h i 0 j (λ t l m e. omega (arith, g.before t (omega arith)))) ∙ upto-none s h i

  -- descriptor i has part j
  pub own_is : (r : Bool) → r ≡ true → Owns s h i j r
      → descriptor s h i ≡ primary_of s h.primary h.b1 h.m i + value s h.parts h.b2 j * 2 ^ h.b1
  own_is r e w =
      let hit = w.yes e in
      let rest : (j + 1) + (h.e - (j + 1)) ≡ h.e = omega (arith, hit.0) in
      let others = skipped s h i (j + 1) (h.e - (j + 1))
      (λ t l m q. omega (arith, g.order j t (omega arith) (omega arith), hit.1)) in
      sym (upto_all s h i) ∙ ap (λ (x : ℕ). upto s h x i) (sym rest) ∙ others ∙ upto-hit s h i j hit.1 ∙ rw plain

  -- descriptor i has no part
  pub none_is : (r : Bool) → r ≡ false → Owns s h i j r → descriptor s h i ≡ primary_of s h.primary h.b1 h.m i
  none_is r e w =
      let rest : j + (h.e - j) ≡ h.e = omega (arith, g.within) in
      sym (upto_all s h i) ∙ ap (λ (x : ℕ). upto s h x i) (sym rest)
      ∙ skipped s h i j (h.e - j) (λ t l m q. other t (omega arith) q (below_or j t) l) ∙ plain
    where
      other : (t : ℕ) → t < h.e → offset_of s h t ≡ i → (j < t) ⊎ (t ≤ j) → j ≤ t → ⊥
      other t m q (inl l) k = omega (arith, g.order j t l m, g.after (omega arith))
      other t m q (inr l) k =
          let same : t ≡ j = omega arith in
          w.no e (omega arith) (rw same at q)

  -- the next descriptor
  pub reach-next : (r : Bool) → Owns s h i j r → Reached s h (i + 1) (j + one r)
  reach-next true w = record {
    order = g.order;
    within = omega (arith, (w.yes refl).0);
    before = λ t l. passed t (below_or t j) l;
    after = λ l. omega (arith, g.order j (j + 1) (omega arith) l, (w.yes refl).1);
  }
    where
      passed : (t : ℕ) → (t < j) ⊎ (j ≤ t) → t < j + 1 → offset_of s h t < i + 1
      passed t (inl l) m = omega (arith, g.before t l)
      passed t (inr l) m =
          let same : t ≡ j = omega arith in
          rw same (omega (arith, (w.yes refl).1))
  reach-next false w = record {
    order = g.order;
    within = rw (add-zero j) g.within;
    before = λ t l. omega (arith, g.before t (omega arith));
    after = λ l. rw (add-zero j) (omega (arith, w.no refl (omega arith), g.after (omega arith)));
  }

-- the first descriptor, where the offsets rise
pub reach-first : (s : List ℕ) (h : ChunkHead) (n : ℕ) → h.offsets + h.e ≤ length s
    → rising n 0 (take h.e (drop h.offsets s)) ≡ true → Reached s h 0 0
reach-first s h n room up = record {
  order = λ t u l m. less t u l m;
  within = omega arith;
  before = λ t l. omega arith;
  after = λ l. omega arith;
}
  where
    less : (t u : ℕ) → t < u → u < h.e → offset_of s h t < offset_of s h u
    less t u l m =
        let len : length (take h.e (drop h.offsets s)) ≡ h.e =
        length-take-le h.e (drop h.offsets s) (rw length-drop (omega arith)) in
        let r = rising-less n 0 (take h.e (drop h.offsets s)) t u up l (rw len m) in
        rw (
          get_or-take h.e (drop h.offsets s) t 0 (omega arith),
          get_or-take h.e (drop h.offsets s) u 0 m,
          get_or-drop h.offsets s t 0,
          get_or-drop h.offsets s u 0,
        ) at r
