-- Inclusion and exclusion: how many members two containers combined have follows from how many each has and how many
-- are in both. Assumes nothing.
use mathlib.Core.Path.{◌≡◌, refl, sym, ap, ◌∙◌}
use mathlib.Core.Bool.{Bool, true, false}
use mathlib.Core.List.{List, [], ◌∷◌}
use Prim.Native.Nat.{ℕ, ◌+◌, ◌*◌, ◌≤◌, ◌<◌}
use native.Mathlib.Omega.{arith}
use mathlib.Core.Logic.{⊎_elim}
use mir.Val.{bool_byte}
use lib.Dec.{eqb}
use lib.ListN.{length, length-append, get_or, take, drop}
use Rattle.common.specs.Lists.{keep, from, mem}
use Rattle.common.specs.Outcome.{pick, one}
use Rattle.bitmap_spec.specs.Bits.{bit}
use Rattle.bitmap_spec.specs.Judge.{container, container_ok, size_of}
use Rattle.bitmap_spec.specs.Sets.{holds}
use Rattle.bitmap_spec.specs.declared.Operation.{Operation}
use Rattle.bitmap_spec.specs.declared.Operation.TheVariants.{Union, Intersection, Difference, SymmetricDifference}
use Rattle.bitmap_spec.proofs.Tally.{bit-lt}
use Rattle.bitmap_spec.proofs.Window.{below_or}
use Rattle.bitmap_laws.proofs.Cuts.{keep_append}
use Rattle.bitmap_laws.proofs.Containers.{keep_same, picked}
use Rattle.bitmap_read.proofs.Containers.{container-up, sparse-is, dense-is, few}
use Rattle.pair_write.specs.Sides.{pair_holds, pair_members, kept, joined_count, Marks, Fresh}
use Rattle.pair_write.proofs.Filtered.{keep-keep, dense-bit}
use Rattle.pair_write.proofs.Marking.{run_more, stamped}

-- ---- over any list
-- r is how many of p and q, with c in both, the operation keeps
abbrev pub Counts : Operation → ℕ → ℕ → ℕ → ℕ → Type 0
Counts o p q c r = (c ≤ p) × (c ≤ q) × (r ≡ joined_count o p q c)

none : (o : Operation) → Counts o 0 0 0 0
none Union = (omega arith, omega arith, refl)
none Intersection = (omega arith, omega arith, refl)
none Difference = (omega arith, omega arith, refl)
none SymmetricDifference = (omega arith, omega arith, refl)

module _ (p q c r : ℕ) (u : c ≤ p) (v : c ≤ q) where
  one_more : (o : Operation) (s t : Bool) → r ≡ joined_count o p q c
      → Counts o (one s + p) (one t + q) (one (holds Intersection s t) + c) (one (holds o s t) + r)
  one_more Union true true e = (omega arith, omega arith, omega arith)
  one_more Union true false e = (omega arith, omega arith, omega arith)
  one_more Union false true e = (omega arith, omega arith, omega arith)
  one_more Union false false e = (omega arith, omega arith, omega arith)
  one_more Intersection true true e = (omega arith, omega arith, omega arith)
  one_more Intersection true false e = (omega arith, omega arith, omega arith)
  one_more Intersection false true e = (omega arith, omega arith, omega arith)
  one_more Intersection false false e = (omega arith, omega arith, omega arith)
  one_more Difference true true e = (omega arith, omega arith, omega arith)
  one_more Difference true false e = (omega arith, omega arith, omega arith)
  one_more Difference false true e = (omega arith, omega arith, omega arith)
  one_more Difference false false e = (omega arith, omega arith, omega arith)
  one_more SymmetricDifference true true e = (omega arith, omega arith, omega arith)
  one_more SymmetricDifference true false e = (omega arith, omega arith, omega arith)
  one_more SymmetricDifference false true e = (omega arith, omega arith, omega arith)
  one_more SymmetricDifference false false e = (omega arith, omega arith, omega arith)

keep-cons : (f : ℕ → Bool) (x : ℕ) (xs : List ℕ) → length (keep f (x ∷ xs)) ≡ one (f x) + length (keep f xs)
unfolding keep
keep-cons f x xs = go (f x)
  where
    go : (b : Bool) → length (pick b (x ∷ keep f xs) (keep f xs)) ≡ one b + length (keep f xs)
    go true = omega arith
    go false = omega arith

keep-none : (f : ℕ → Bool) → length (keep f []) ≡ 0
unfolding keep
keep-none f = refl

inclusion : (o : Operation) (f g : ℕ → Bool) (l : List ℕ)
    → Counts o (length (keep f l)) (length (keep g l)) (length (keep (λ j. holds Intersection (f j) (g j)) l))
    (length (keep (λ j. holds o (f j) (g j)) l))
inclusion o f g [] =
    rw (
      keep-none f,
      keep-none g,
      keep-none (λ j. holds Intersection (f j) (g j)),
      keep-none (λ j. holds o (f j) (g j)),
    ) (none o)
inclusion o f g (x ∷ xs) =
    let h = inclusion o f g xs in
    rw (
      keep-cons f x xs,
      keep-cons g x xs,
      keep-cons (λ j. holds Intersection (f j) (g j)) x xs,
      keep-cons (λ j. holds o (f j) (g j)) x xs,
    ) (one_more _ _ _ _ h.0 h.1 o (f x) (g x) h.2)

-- ---- counted byte by byte
keep-last : (f : ℕ → Bool) (x : ℕ) → length (keep f (x ∷ [])) ≡ bool_byte (f x)
unfolding keep
keep-last f x = go (f x)
  where
    go : (b : Bool) → length (pick b (x ∷ []) []) ≡ bool_byte b
    go true = refl
    go false = refl

pub count-more : (f : ℕ → Bool) (s : List ℕ) (at i x m : ℕ) → at + i < length s → x ≡ get_or s (at + i) 0
    → m ≡ length (keep f (take i (drop at s)))
    → m + bool_byte (f x) ≡ length (keep f (take (i + 1) (drop at s)))
count-more f s at i x m h ex e =
    rw (run_more s at i h, keep_append f (take i (drop at s)) (get_or s (at + i) 0 ∷ []), ← ex)
    (omega (arith, e, length-append (keep f (take i (drop at s))) (keep f (x ∷ [])), keep-last f x))

pub count-start : (f : ℕ → Bool) (l : List ℕ) → 0 ≡ length (keep f (take 0 l))
unfolding keep
count-start f l = refl

bit-one : (b : ℕ) → b < 2 → b ≡ bool_byte (eqb b 1)
bit-one b h =
    ⊎_elim (λ l. let e : b ≡ 0 = omega arith in rw e) (λ l. let e : b ≡ 1 = omega arith in rw e) (below_or b 1)

-- by bits
module _ (s : List ℕ) (at : ℕ) (t : List ℕ) (start : ℕ) where
  pub common-start : 0 ≡ length (kept s at 0 t start 1)
  unfolding kept
  common-start = count-start (λ x. eqb (bit t (start * 8 + x)) 1) (drop at s)

  pub common-more : (i x z m : ℕ) → at + i < length s → x ≡ get_or s (at + i) 0 → z ≡ bit t (start * 8 + x)
      → m ≡ length (kept s at i t start 1) → m + z ≡ length (kept s at (i + 1) t start 1)
  unfolding kept
  common-more i x z m h ex ez e =
      ap (λ (k : ℕ). m + k) (ez ∙ bit-one (bit t (start * 8 + x)) (bit-lt t (start * 8 + x)))
      ∙ count-more (λ x. eqb (bit t (start * 8 + x)) 1) s at i x m h ex e

-- ---- two containers
module _ (a : List ℕ) (at d : ℕ) (b : List ℕ) (bt e : ℕ) where
  pub pair-counts : (o : Operation) → container_ok a at d ≡ true → container_ok b bt e ≡ true
      → Counts o (length (container a at d)) (length (container b bt e))
      (length (pair_members Intersection a at d b bt e)) (length (pair_members o a at d b bt e))
  unfolding pair_members pair_holds
  pair-counts o g h =
      let n = inclusion o (λ j. mem j (container a at d)) (λ j. mem j (container b bt e)) (from 0 256) in
      let p = ap length (picked (container a at d) (container-up a at d g)) in
      let q = ap length (picked (container b bt e) (container-up b bt e h)) in
      rw (p, q) at n

  -- the members of a sparse container that a test finds in the other
  pub found_in : (f : ℕ → Bool) → d < 32 → container_ok a at d ≡ true
      → ((j : ℕ) → j < 256 → f j ≡ mem j (container b bt e))
      → keep f (take d (drop at a)) ≡ pair_members Intersection a at d b bt e
  unfolding pair_members pair_holds
  found_in f l g h =
      rw (sparse-is a at d l)
      (ap (keep f) (sym (picked (container a at d) (container-up a at d g)))
      ∙ keep-keep f (λ j. mem j (container a at d)) (from 0 256)
      ∙ keep_same (λ j. pick (mem j (container a at d)) (f j) false)
      (λ j. holds Intersection (mem j (container a at d)) (mem j (container b bt e))) 0 256
      (λ i m. go (mem (0 + i) (container a at d)) (h (0 + i) (omega arith))))
    where
      go : {u v : Bool} (s : Bool) → u ≡ v → pick s u false ≡ holds Intersection s v
      go true q = q
      go false q = refl

  pub turned : pair_members Intersection a at d b bt e ≡ pair_members Intersection b bt e a at d
  unfolding pair_members pair_holds
  turned =
      keep_same (λ j. holds Intersection (mem j (container a at d)) (mem j (container b bt e)))
      (λ j. holds Intersection (mem j (container b bt e)) (mem j (container a at d))) 0 256
      (λ i m. go (mem (0 + i) (container a at d)) (mem (0 + i) (container b bt e)))
    where
      go : (s t : Bool) → holds Intersection s t ≡ holds Intersection t s
      go true true = refl
      go true false = refl
      go false true = refl
      go false false = refl

  -- a dense container's bits are such a test
  pub common-is : d < 32 → container_ok a at d ≡ true → 32 ≤ e
      → kept a at d b bt 1 ≡ pair_members Intersection a at d b bt e
  unfolding kept
  common-is l g h =
      found_in (λ x. eqb (bit b (bt * 8 + x)) 1) l g
      (λ j m. sym (dense-bit b bt j m) ∙ ap (λ (s : List ℕ). mem j s) (dense-is b bt e h))

  -- so are marks
  pub marked-is : (stamp : ℕ) (before after : List ℕ) → d < 32 → container_ok a at d ≡ true → e < 32
      → Fresh before stamp → Marks (take e (drop bt b)) stamp before after
      → keep (λ x. eqb (get_or after x 0) stamp) (take d (drop at a)) ≡ pair_members Intersection a at d b bt e
  marked-is stamp before after l g h f m =
      found_in (λ x. eqb (get_or after x 0) stamp) l g
      (λ j n. stamped (take e (drop bt b)) stamp before after f m j n
      ∙ ap (λ (s : List ℕ). mem j s) (sparse-is b bt e h))

  -- from the number of members of each, and of both
  module _ (ra : at + size_of d ≤ length a) (rb : bt + size_of e ≤ length b) (g : container_ok a at d ≡ true)
      (h : container_ok b bt e ≡ true) (p q c : ℕ) (ep : p ≡ length (container a at d))
      (eq : q ≡ length (container b bt e)) (ec : c ≡ length (pair_members Intersection a at d b bt e)) where
    pub may-join : (c ≤ p) × (c ≤ q) × (p ≤ 256) × (q ≤ 256)
    may-join =
        let n = pair-counts Intersection g h in (
          omega (arith, n.0),
          omega (arith, n.1),
          omega (arith, few a at d ra),
          omega (arith, few b bt e rb),
        )

    pub joined_is : (o : Operation) (r : ℕ) → r ≡ joined_count o p q c → r ≡ length (pair_members o a at d b bt e)
    joined_is o r x = x ∙ rw (ep, eq, ec) (sym (pair-counts o g h).2)

    -- an operation that keeps nothing of the second alone does not ask how many it has
    pub first-is : (o : Operation) (r : ℕ) → holds o false true ≡ false → r ≡ joined_count o p c c
        → r ≡ length (pair_members o a at d b bt e)
    first-is o r z x = joined_is o r (x ∙ same o z)
      where
        same : (o : Operation) → holds o false true ≡ false → joined_count o p c c ≡ joined_count o p q c
        same Union z = let y : ◌≡◌ {A = ℕ} 0 1 = cc in absurd (omega arith)
        same Intersection z = refl
        same Difference z = refl
        same SymmetricDifference z = let y : ◌≡◌ {A = ℕ} 0 1 = cc in absurd (omega arith)

    -- nor does one that keeps nothing of the first alone
    pub both_is : (o : Operation) → holds o true false ≡ false → c ≡ length (pair_members o a at d b bt e)
    both_is o z = joined_is o c (same o z)
      where
        same : (o : Operation) → holds o true false ≡ false → c ≡ joined_count o p q c
        same Union z = let y : ◌≡◌ {A = ℕ} 0 1 = cc in absurd (omega arith)
        same Intersection z = refl
        same Difference z = let y : ◌≡◌ {A = ℕ} 0 1 = cc in absurd (omega arith)
        same SymmetricDifference z = let y : ◌≡◌ {A = ℕ} 0 1 = cc in absurd (omega arith)
