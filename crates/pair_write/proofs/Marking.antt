-- Marks: the numbers of a list are marked one by one with a stamp that no number had, so a number has the stamp where
-- it is in the list. Assumes nothing.
use mathlib.Core.Path.{◌≡◌, refl, sym, ap, ◌∙◌}
use mathlib.Core.Bool.{Bool, true, false}
use mathlib.Core.List.{List, [], ◌∷◌, ◌++◌}
use Prim.Native.Nat.{ℕ, ◌+◌, ◌≤◌, ◌<◌}
use native.Mathlib.Numerals.{add-one}
use native.Mathlib.Omega.{arith}
use borrow.Author.Tests.{eqb-true, eqb-false, eq-eqb, ne_eqb}
use lib.Dec.{eqb}
use lib.ListN.{length, length-drop, get_or, get_or-replicate, set, take, drop, replicate, length-replicate}
use lib.Seq.{take-suc, get_or-drop, get_or-set_same, get_or-set_other}
use Rattle.common.specs.Lists.{mem}
use Rattle.common.specs.Outcome.{pick, either}
use Rattle.pair_write.specs.Sides.{Marks, Fresh}

-- ---- one byte more
pub run_more : (s : List ℕ) (at i : ℕ) → at + i < length s
    → take (i + 1) (drop at s) ≡ take i (drop at s) ++ (get_or s (at + i) 0 ∷ [])
run_more s at i h =
    let l : i < length (drop at s) = rw (length-drop at s) (omega arith) in
    rw (add-one i, take-suc (drop at s) i 0 l, get_or-drop at s i 0)

-- ---- marks
mem-last : (x y : ℕ) (l : List ℕ) → mem x (l ++ (y ∷ [])) ≡ either (mem x l) (eqb x y)
unfolding mem
mem-last x y [] = go (eqb x y)
  where
    go : (b : Bool) → pick b true false ≡ b
    go true = refl
    go false = refl
mem-last x y (z ∷ zs) = go (eqb x z) (mem-last x y zs)
  where
    go : (b : Bool) → mem x (zs ++ (y ∷ [])) ≡ either (mem x zs) (eqb x y)
        → pick b true (mem x (zs ++ (y ∷ []))) ≡ either (pick b true (mem x zs)) (eqb x y)
    go true e = refl
    go false e = e

pub marks-start : (l : List ℕ) (stamp : ℕ) (marks : List ℕ) → Marks (take 0 l) stamp marks marks
unfolding mem
marks-start l stamp marks = record { at = λ x h. refl }

pub marks-more : (s : List ℕ) (at i y stamp : ℕ) (before after : List ℕ) → at + i < length s → y ≡ get_or s (at + i) 0
    → y < length after → Marks (take i (drop at s)) stamp before after
    → Marks (take (i + 1) (drop at s)) stamp before (set after y stamp)
marks-more s at i y stamp before after h ey l m =
    rw (run_more s at i h, ← ey) (record { at = λ x g. go x (eqb x y) refl (m.at x g) })
  where
    last : (x : ℕ) (b : Bool) → eqb x y ≡ b
        → pick (mem x (take i (drop at s) ++ (y ∷ []))) stamp (get_or before x 0)
        ≡ pick (either (mem x (take i (drop at s))) b) stamp (get_or before x 0)
    last x b e = rw (mem-last x y (take i (drop at s)), e)

    hit : (s : Bool) (t u : ℕ) → t ≡ pick (either s true) t u
    hit true t u = refl
    hit false t u = refl

    miss : (s : Bool) (t u : ℕ) → pick s t u ≡ pick (either s false) t u
    miss true t u = refl
    miss false t u = refl

    go : (x : ℕ) (b : Bool) → eqb x y ≡ b
        → get_or after x 0 ≡ pick (mem x (take i (drop at s))) stamp (get_or before x 0)
        → get_or (set after y stamp) x 0 ≡ pick (mem x (take i (drop at s) ++ (y ∷ []))) stamp (get_or before x 0)
    go x true e q =
        let z : x ≡ y = eqb-true x y e in
        ap (λ (k : ℕ). get_or (set after y stamp) k 0) z ∙ get_or-set_same after y stamp 0 l
        ∙ hit (mem x (take i (drop at s))) stamp (get_or before x 0) ∙ sym (last x true e)
    go x false e q =
        get_or-set_other after y x stamp 0 (eqb-false x y e) ∙ q
        ∙ miss (mem x (take i (drop at s))) stamp (get_or before x 0) ∙ sym (last x false e)

-- ---- a stamp that no number had
module _ (l : List ℕ) (stamp : ℕ) (before after : List ℕ) (f : Fresh before stamp) (m : Marks l stamp before after)
  where
    pub stamped : (x : ℕ) → x < 256 → eqb (get_or after x 0) stamp ≡ mem x l
    stamped x h = rw (m.at x h) (go (mem x l))
      where
        go : (b : Bool) → eqb (pick b stamp (get_or before x 0)) stamp ≡ b
        go true = eq-eqb stamp stamp refl
        go false = ne_eqb (get_or before x 0) stamp (λ e. omega (arith, f.below x h))

    pub next-fresh : length after ≡ length before → Fresh after (stamp + 1)
    next-fresh n = record { long = omega (arith, f.long); below = λ x h. rw (m.at x h) (go x h (mem x l)) }
      where
        go : (x : ℕ) → x < 256 → (b : Bool) → pick b stamp (get_or before x 0) < stamp + 1
        go x h true = omega arith
        go x h false = omega (arith, f.below x h)

pub later-fresh : (marks : List ℕ) (j k : ℕ) → j ≤ k → Fresh marks j → Fresh marks k
later-fresh marks j k h f = record { long = f.long; below = λ x l. omega (arith, f.below x l) }

pub start-fresh : Fresh (replicate 256 0) (0 + 1)
start-fresh = record {
  long = rw (length-replicate {A = ℕ} 256 0) (omega arith);
  below = λ x h. rw (get_or-replicate {A = ℕ} 256 x 0 0 h) (omega arith);
}
