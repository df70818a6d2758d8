-- A descriptor asks for no more than 32: a dense container has as many, and so has a union with it; one of two whose
-- other is empty is counted by its descriptor. Assumes nothing.
use mathlib.Core.Path.{◌≡◌, refl, sym, ap, ap₂, ◌∙◌}
use mathlib.Core.Logic.{⊎_elim}
use mathlib.Core.Bool.{Bool, true, false}
use mathlib.Core.List.{List}
use Prim.Native.Nat.{ℕ, ◌+◌, ◌≤◌, min, max}
use native.Mathlib.Omega.{arith}
use borrow.Author.Tests.{le-ltb, leb-true}
use lib.Dec.{eqb}
use lib.ListN.{length}
use Rattle.common.specs.Lists.{keep, from, mem}
use Rattle.bitmap_spec.specs.Judge.{container, container_ok, size_of, dense}
use Rattle.bitmap_spec.specs.Sets.{holds}
use Rattle.bitmap_spec.specs.declared.Operation.{Operation}
use Rattle.bitmap_spec.specs.declared.Operation.TheVariants.{Union, Intersection, Difference, SymmetricDifference}
use Rattle.bitmap_spec.proofs.Window.{below_or}
use Rattle.bitmap_laws.proofs.Containers.{keep_same}
use Rattle.blocks.specs.Block.{joins}
use Rattle.pair_write.specs.Sides.{pair_holds, pair_members, want_of, joined_count, is_union}
use Rattle.pair_write.proofs.Alone.{members-low}
use Rattle.pair_write.proofs.Counting.{pair-counts}
use Rattle.pair_write.proofs.Joined.{as-block}

-- ---- one container
module _ (s : List ℕ) (at d : ℕ) (g : container_ok s at d ≡ true) where
  many : 32 ≤ d → 32 ≤ length (container s at d)
  unfolding container_ok
  many h = leb-true 32 (length (container s at d)) (rw (le-ltb d 32 h) at g)

  capped : at + size_of d ≤ length s → min d 32 ≡ min (length (container s at d)) 32
  capped r =
      ⊎_elim (λ l. ap (λ (n : ℕ). min n 32) (members-low s at d r l)) (λ l. omega (arith, many l)) (below_or d 32)

-- ---- the union
pub union-kept : (o : Operation) → holds o false true ≡ true → eqb (want_of o) 1 ≡ is_union o
union-kept Union h = refl
union-kept Intersection h = absurd (let z : ◌≡◌ {A = ℕ} 0 1 = cc in omega arith)
union-kept Difference h = absurd (let z : ◌≡◌ {A = ℕ} 0 1 = cc in omega arith)
union-kept SymmetricDifference h = refl

pub union-lost : (o : Operation) → holds o false true ≡ false → false ≡ is_union o
union-lost Union h = absurd (let z : ◌≡◌ {A = ℕ} 0 1 = cc in omega arith)
union-lost Intersection h = refl
union-lost Difference h = refl
union-lost SymmetricDifference h = refl

-- ---- two containers
first-cap : (o : Operation) (e n : ℕ) → min e 32 ≡ min n 32
    → min (joined_count o 0 e 0) 32 ≡ min (joined_count o 0 n 0) 32
first-cap Union e n h = omega arith
first-cap Intersection e n h = refl
first-cap Difference e n h = refl
first-cap SymmetricDifference e n h = omega arith

second-cap : (o : Operation) (d n : ℕ) → min d 32 ≡ min n 32
    → min (joined_count o d 0 0) 32 ≡ min (joined_count o n 0 0) 32
second-cap Union d n h = omega arith
second-cap Intersection d n h = refl
second-cap Difference d n h = omega arith
second-cap SymmetricDifference d n h = omega arith

module _ (o : Operation) (a : List ℕ) (at d : ℕ) (b : List ℕ) (bt e : ℕ) where
  module _ (ra : at + size_of d ≤ length a) (rb : bt + size_of e ≤ length b) (g : container_ok a at d ≡ true)
      (h : container_ok b bt e ≡ true) where
    pub first-empty : (r : ℕ) → d ≡ 0 → r ≡ joined_count o 0 e 0
        → min r 32 ≡ min (length (pair_members o a at d b bt e)) 32
    first-empty r z q =
        let n = pair-counts a at d b bt e o g h in
        let p : length (container a at d) ≡ 0 = omega (arith, members-low a at d ra (omega arith)) in
        let c : length (pair_members Intersection a at d b bt e) ≡ 0 = omega (arith, n.0) in
        rw q (first-cap o e (length (container b bt e)) (capped b bt e h rb)
        ∙ ap (λ (k : ℕ). min k 32) (sym (rw (p, c) at n.2)))

    pub second_empty : (r : ℕ) → e ≡ 0 → r ≡ joined_count o d 0 0
        → min r 32 ≡ min (length (pair_members o a at d b bt e)) 32
    second_empty r z q =
        let n = pair-counts a at d b bt e o g h in
        let p : length (container b bt e) ≡ 0 = omega (arith, members-low b bt e rb (omega arith)) in
        let c : length (pair_members Intersection a at d b bt e) ≡ 0 = omega (arith, n.1) in
        rw q (second-cap o d (length (container a at d)) (capped a at d g ra)
        ∙ ap (λ (k : ℕ). min k 32) (sym (rw (p, c) at n.2)))

    -- a union keeps the 32 members or more of a dense container
    pub union-full : is_union o ≡ true → 32 ≤ max d e
        → ◌≡◌ {A = ℕ} (min 32 32) (min (length (pair_members o a at d b bt e)) 32)
    union-full u m = go o u (pair-counts a at d b bt e o g h).0 (pair-counts a at d b bt e o g h).1
        (pair-counts a at d b bt e o g h).2
      where
        large : 32 ≤ max (length (container a at d)) (length (container b bt e))
        large =
            ⊎_elim (λ l. omega (arith, many b bt e h (omega arith))) (λ l. omega (arith, many a at d g l))
            (below_or d 32)

        go : (o : Operation) → is_union o ≡ true → {c r : ℕ} → c ≤ length (container a at d)
            → c ≤ length (container b bt e)
            → r ≡ joined_count o (length (container a at d)) (length (container b bt e)) c
            → ◌≡◌ {A = ℕ} (min 32 32) (min r 32)
        go Union u p q e = omega (arith, large)
        go Intersection u p q e = absurd (let z : ◌≡◌ {A = ℕ} 0 1 = cc in omega arith)
        go Difference u p q e = absurd (let z : ◌≡◌ {A = ℕ} 0 1 = cc in omega arith)
        go SymmetricDifference u p q e = absurd (let z : ◌≡◌ {A = ℕ} 0 1 = cc in omega arith)

  -- two dense containers are blocks as they stand
  pub blocks-are : 32 ≤ d → 32 ≤ e → keep (joins o a at b bt) (from 0 256) ≡ pair_members o a at d b bt e
  unfolding joins pair_members pair_holds
  blocks-are h l =
      keep_same (λ j. holds o (mem j (dense a at)) (mem j (dense b bt)))
      (λ j. holds o (mem j (container a at d)) (mem j (container b bt e))) 0 256
      (λ i m. ap₂ (λ (s t : Bool). holds o s t) (as-block a at d (0 + i) h) (as-block b bt e (0 + i) l))
