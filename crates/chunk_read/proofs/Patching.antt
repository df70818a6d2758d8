-- Exception parts added one by one, in their order, to the primary values that stand in the output.
-- Assumes nothing.
use mathlib.Core.Path.{◌≡◌, refl, sym, ap, ◌∙◌}
use mathlib.Core.Bool.{Bool, true, false}
use mathlib.Core.Logic.{◌⊎◌, inl, inr, ⊎_elim}
use mathlib.Core.List.{List, [], ◌∷◌, ◌++◌, append_assoc, append-nil}
use Prim.Native.Nat.{ℕ, zero, suc, ◌+◌, ◌-◌, ◌*◌, ◌%◌, ◌^◌, ◌≤◌, ◌<◌}
use native.Mathlib.Nat.{zero-add, add-zero, add-suc, add-mul, zero-mul, mul-le-mul_right, lt_of_lt_of_le}
use native.Mathlib.Numerals.{add-one}
use native.Mathlib.Omega.{arith}
use borrow.Author.Tests.{le-leb, lt-leb, eq-eqb, ne_eqb}
use lib.ListN.{length, get_or, take, set}
use lib.Seq.{get_or-set_same, get_or-set_other, get_or-take, length-take-le, take-suc, ext_get_or}
use lib.Dec.{leb}
use lib.Pow.{pow_mono, shl_lt, shl_exact}
use Rattle.common.specs.Lists.{table}
use Rattle.common.proofs.Lists.{every-hit, every-all, table-snoc}
use Rattle.bitmap_spec.specs.Bits.{value}
use Rattle.bitmap_spec.specs.Judge.{part, descriptor}
use Rattle.bitmap_spec.specs.declared.ChunkHead.{ChunkHead}
use Rattle.bitmap_spec.proofs.Window.{below_or}
use Rattle.chunk_read.specs.Post.{Filled, Wrote, Plain, Patched, primary_of}

-- two numbers are the same, or not
same_or : (a b : ℕ) → (a ≡ b) ⊎ (a ≡ b → ⊥)
same_or a b =
    ⊎_elim (λ l. inr (λ e. omega arith))
    (λ g. ⊎_elim (λ l. inr (λ e. omega arith)) (λ l. inl (omega arith)) (below_or b a)) (below_or a b)

-- descriptor i with the first j exceptions
unfoldable pub upto : List ℕ → ChunkHead → ℕ → ℕ → ℕ
upto s h j i = primary_of s h.primary h.b1 h.m i + part s h j i * 2 ^ h.b1

module _ (s : List ℕ) (h : ChunkHead) (i : ℕ) where
  pub upto-none : upto s h 0 i ≡ primary_of s h.primary h.b1 h.m i
  unfolding upto part
  upto-none = rw (zero-mul) (add-zero (primary_of s h.primary h.b1 h.m i))

  pub upto_all : upto s h h.e i ≡ descriptor s h i
  unfolding upto primary_of descriptor
  upto_all = refl

  pub upto-hit : (j : ℕ) → get_or s (h.offsets + j) 0 ≡ i
      → upto s h (j + 1) i ≡ upto s h j i + value s h.parts h.b2 j * 2 ^ h.b1
  unfolding upto part
  upto-hit j e =
      rw (add-one j, eq-eqb _ _ e, add-mul (part s h j i) (value s h.parts h.b2 j) (2 ^ h.b1)) (omega arith)

  pub upto-miss : (j : ℕ) → (get_or s (h.offsets + j) 0 ≡ i → ⊥) → upto s h (j + 1) i ≡ upto s h j i
  unfolding upto part
  upto-miss j e = rw (add-one j, ne_eqb _ _ e, add-zero (part s h j i))

  part-grows : (j n : ℕ) → part s h j i ≤ part s h (j + n) i
  unfolding part
  part-grows j zero = rw (add-zero j) (omega arith)
  part-grows j (suc n) = rw (add-suc j n) (omega (arith, part-grows j n))

  upto_add : (j n : ℕ) → upto s h j i ≤ upto s h (j + n) i
  unfolding upto
  upto_add j n = omega (arith, mul-le-mul_right (2 ^ h.b1) (part-grows j n))

  upto-grows : (j : ℕ) → j ≤ h.e → upto s h j i ≤ descriptor s h i
  upto-grows j l =
      let e : j + (h.e - j) ≡ h.e = omega arith in
      rw (← upto_all) (rw e at (upto_add j (h.e - j)))

pub plain-grows : (s : List ℕ) (h : ChunkHead) (i : ℕ) → primary_of s h.primary h.b1 h.m i ≤ descriptor s h i
plain-grows s h i = rw (← upto-none s h i) (upto-grows s h i 0 (omega arith))

-- a part of b2 bits above b1 others
pub shifted : (b1 b2 q : ℕ) → b1 + b2 ≤ 8 → q < 2 ^ b2 → (q * 2 ^ b1 % 4294967296 ≡ q * 2 ^ b1) × (q * 2 ^ b1 < 256)
shifted b1 b2 q h b =
    (shl_exact b2 b1 32 b (omega arith), lt_of_lt_of_le (shl_lt b2 b1 b) (pow_mono {j = 8} (omega arith)))

-- the first j exceptions are in
pub record Patching (s : List ℕ) (h : ChunkHead) (n k : ℕ) (before out : List ℕ) (j : ℕ) : Type 0 where
  pub within : j ≤ h.e
  pub kept : length out ≡ length before
  pub same : (p : ℕ) → p < k → get_or out p 0 ≡ get_or before p 0
  pub here : (i : ℕ) → i < n → get_or out (k + i) 0 ≡ upto s h j i
  pub small : (i : ℕ) → i < n → upto s h j i ≤ 63

module _ (s : List ℕ) (h : ChunkHead) (n k : ℕ) (before : List ℕ) where
  pub begin : Plain s h n k before → Patching s h n k before before 0
  begin q = record {
    within = omega arith;
    kept = refl;
    same = λ p l. refl;
    here = λ i l. q.here i l ∙ sym (upto-none s h i);
    small = λ i l. rw (upto-none s h i) (q.small i l);
  }

  module _ (out : List ℕ) (j : ℕ) (g : Patching s h n k before out j) (o v : ℕ)
      (at : get_or s (h.offsets + j) 0 ≡ o) (l : j < h.e) (b : o < n)
      (e : v ≡ get_or out (k + o) 0 + value s h.parts h.b2 j * 2 ^ h.b1) where
    sum_is : v ≡ upto s h (j + 1) o
    sum_is = e ∙ ap (λ (x : ℕ). x + value s h.parts h.b2 j * 2 ^ h.b1) (g.here o b) ∙ sym (upto-hit s h o j at)

    pub stop : 63 < v → Patched s h n k before out false
    stop m =
        let grows = upto-grows s h o (j + 1) (omega arith) in
        let over = lt-leb (descriptor s h o) 63 (omega (arith, sum_is, grows)) in record {
          says = sym (every-hit (λ i. leb (descriptor s h i) 63) 0 n o b (rw (zero-add o) over));
          same = g.same;
          holds = λ r. absurd (let z : ◌≡◌ {A = ℕ} 0 1 = cc in omega arith);
        }

    pub more : k + n ≤ length before → v ≤ 63 → Patching s h n k before (set out (k + o) v) (j + 1)
    more room m = record {
      within = omega arith;
      kept = lib.ListN.length-set out (k + o) v ∙ g.kept;
      same = λ p q. get_or-set_other out (k + o) p v 0 (λ z. omega arith) ∙ g.same p q;
      here = λ i q. case-here i q (same_or i o);
      small = λ i q. case-small i q (same_or i o);
    }
      where
        case-here : (i : ℕ) → i < n → (i ≡ o) ⊎ (i ≡ o → ⊥) → get_or (set out (k + o) v) (k + i) 0 ≡ upto s h (j + 1) i
        case-here i q (inl z) = rw z (get_or-set_same out (k + o) v 0 (omega (arith, g.kept)) ∙ sum_is)
        case-here i q (inr z) = get_or-set_other out (k + o) (k + i) v 0 (λ y. z (omega arith)) ∙ g.here i q
            ∙ sym (upto-miss s h i j (λ y. z (sym y ∙ at)))

        case-small : (i : ℕ) → i < n → (i ≡ o) ⊎ (i ≡ o → ⊥) → upto s h (j + 1) i ≤ 63
        case-small i q (inl z) = rw (z, ← sum_is) m
        case-small i q (inr z) = rw (upto-miss s h i j (λ y. z (sym y ∙ at))) (g.small i q)

  pub end : (out : List ℕ) (j : ℕ) → Patching s h n k before out j → h.e ≤ j → Patched s h n k before out true
  end out j g l =
      let e : j ≡ h.e = omega (arith, g.within) in
      let d : (i : ℕ) → upto s h j i ≡ descriptor s h i = λ i. ap (λ (x : ℕ). upto s h x i) e
      ∙ upto_all s h i in record {
        says = sym
            (every-all (λ i. leb (descriptor s h i) 63) 0 n
            (λ i q. rw (zero-add i) (le-leb (descriptor s h i) 63 (omega (arith, d i, g.small i q)))));
        same = g.same;
        holds = λ r i q. g.here i q ∙ d i;
      }

-- ---- the whole

-- what stands byte by byte, as a list
stands : (f : ℕ → ℕ) (k n : ℕ) (before after : List ℕ) → length after ≡ length before → k + n ≤ length before
    → ((p : ℕ) → p < k → get_or after p 0 ≡ get_or before p 0) → ((j : ℕ) → j < n → get_or after (k + j) 0 ≡ f j)
    → take (k + n) after ≡ take k before ++ table f 0 n
unfolding table
stands f k zero before after e room same here =
    let a : length (take k after) ≡ k = length-take-le k after (omega arith) in
    let b : length (take k before) ≡ k = length-take-le k before (omega arith) in
    rw (add-zero k)
    (ext_get_or 0 (take k after) (take k before) (a ∙ sym b)
    (λ i l.
    let g : i < k = rw a at l in
    get_or-take k after i 0 g ∙ same i g ∙ sym (get_or-take k before i 0 g))
    ∙ sym (append-nil (take k before)))
stands f k (suc n) before after e room same here =
    rw (
      add-suc k n,
      take-suc after (k + n) 0 (omega arith),
      stands f k n before after e (omega arith) same (λ j l. here j (omega arith)),
      here n (omega arith),
      table-snoc f 0 n,
      zero-add n,
    )
    (append_assoc (take k before) (table f 0 n) (f n ∷ []))

module _ (s : List ℕ) (h : ChunkHead) (n k : ℕ) (before mid : List ℕ) (any : ℕ)
    (w : Wrote (primary_of s h.primary h.b1 h.m) 0 n k before mid any) where
  pub too_large : 63 < any → Filled (descriptor s h) n k before mid false
  too_large l =
      let z = w.large l in
      let over = lt-leb (descriptor s h z.0) 63 (omega (arith, z.3, plain-grows s h z.0)) in record {
        says = sym (every-hit (λ i. leb (descriptor s h i) 63) 0 n z.0 z.2 (rw (zero-add z.0) over));
        holds = λ r. absurd (let z : ◌≡◌ {A = ℕ} 0 1 = cc in omega arith);
      }

  module _ (l : any ≤ 63) where
    pub plain : Plain s h n k mid
    plain = record {
      here = λ j g. w.here j (omega arith) g ∙ (let z = w.small (omega arith) j (omega arith) g in omega arith);
      small = λ j g. let z = w.small (omega arith) j (omega arith) g in omega arith;
    }

    pub filled : (after : List ℕ) (r : Bool) → length mid ≡ length before → length after ≡ length mid
        → k + n ≤ length before → Patched s h n k mid after r → Filled (descriptor s h) n k before after r
    filled after r a b room q = record {
      says = q.says;
      holds = λ t. stands (descriptor s h) k n before after (b ∙ a) room (λ p g. q.same p g ∙ w.same p (omega arith))
          (q.holds t);
    }
