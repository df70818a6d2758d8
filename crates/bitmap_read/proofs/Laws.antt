-- The answers tied to the members: probe is membership, rank and cardinality count the positions that probe says yes to.
-- Assumes nothing.
use mathlib.Core.Path.{◌≡◌, refl, sym, ap, ◌∙◌}
use mathlib.Core.Logic.{⊎_elim}
use mathlib.Core.Bool.{Bool, true, false}
use mathlib.Core.List.{List, [], ◌∷◌}
use Prim.Native.Nat.{ℕ, zero, suc, ◌+◌, ◌≤◌, ◌<◌}
use native.Mathlib.Nat.{zero-add, eq-or-lt_of_le}
use native.Mathlib.Omega.{arith}
use borrow.Author.Tests.{eq-eqb, ne_eqb, lt-ltb, le-ltb, le-leb, lt-leb}
use lib.ListN.{length}
use lib.Dec.{leb, ltb, eqb}
use Rattle.common.specs.Outcome.{refused, found, pick, one}
use Rattle.common.specs.Lists.{keep, mem, rising}
use Rattle.bitmap_spec.specs.Judge.{judge}
use Rattle.bitmap_spec.specs.Ask.{check, probe, rank, below, at_or_above}
use Rattle.bitmap_spec.proofs.Tally.{tally}
use Rattle.bitmap_spec.proofs.Window.{below_or}
use Rattle.bitmap_laws.proofs.Members.{head_ok, mem-low}
use Rattle.bitmap_laws.proofs.Accept.{judge-set}
use Rattle.bitmap_read.proofs.Below.{below_all, below_none}

-- one position more
below_suc : (n lo : ℕ) (l : List ℕ) (x : ℕ) → rising n lo l ≡ true → below (suc x) l ≡ below x l + one (mem x l)
unfolding below keep mem
below_suc n lo [] x e = refl
below_suc n lo (y ∷ l) x e =
    ⊎_elim (λ h. above h (below_suc n (suc y) l x o.2))
    (λ h. ⊎_elim (λ q. here q (below_suc n (suc y) l x o.2)) (λ g. under g (below_suc n (suc y) l x o.2)) (eq-or-lt_of_le h)) (below_or x y)
  where
    o : (lo ≤ y) × (y < n) × (rising n (suc y) l ≡ true)
    o = head_ok n lo y l e

    above : x < y → length (keep (λ z. ltb z (suc x)) l) ≡ length (keep (λ z. ltb z x) l) + one (mem x l)
        → length (pick (ltb y (suc x)) (y ∷ keep (λ z. ltb z (suc x)) l) (keep (λ z. ltb z (suc x)) l))
        ≡ length (pick (ltb y x) (y ∷ keep (λ z. ltb z x) l) (keep (λ z. ltb z x) l)) + one (pick (eqb x y) true (mem x l))
    above h ih = rw (le-ltb y (suc x) h, le-ltb y x (omega arith), ne_eqb x y (λ q. omega arith)) ih

    here : y ≡ x → length (keep (λ z. ltb z (suc x)) l) ≡ length (keep (λ z. ltb z x) l) + one (mem x l)
        → length (pick (ltb y (suc x)) (y ∷ keep (λ z. ltb z (suc x)) l) (keep (λ z. ltb z (suc x)) l))
        ≡ length (pick (ltb y x) (y ∷ keep (λ z. ltb z x) l) (keep (λ z. ltb z x) l)) + one (pick (eqb x y) true (mem x l))
    here q ih =
        let m : mem x l ≡ false = mem-low n (suc y) l x o.2 (omega arith) in
        rw (lt-ltb y (suc x) (omega arith), le-ltb y x (omega arith), eq-eqb x y (sym q)) (omega (arith, ih, ap one m))

    under : y < x → length (keep (λ z. ltb z (suc x)) l) ≡ length (keep (λ z. ltb z x) l) + one (mem x l)
        → length (pick (ltb y (suc x)) (y ∷ keep (λ z. ltb z (suc x)) l) (keep (λ z. ltb z (suc x)) l))
        ≡ length (pick (ltb y x) (y ∷ keep (λ z. ltb z x) l) (keep (λ z. ltb z x) l)) + one (pick (eqb x y) true (mem x l))
    under h ih = rw (lt-ltb y (suc x) (omega arith), lt-ltb y x h, ne_eqb x y (λ q. omega arith)) (omega (arith, ih))

-- how many members lie below x: the positions below x that are members, counted
pub below-counts : (n lo : ℕ) (l : List ℕ) (x : ℕ) → rising n lo l ≡ true → below x l ≡ tally (λ y. one (mem y l)) 0 x
unfolding tally
below-counts n lo l zero e = below_none n lo l 0 e (omega arith)
below-counts n lo l (suc x) e =
    below_suc n lo l x e ∙ rw (below-counts n lo l x e, zero-add x)

-- those below and those at or above are all
pub below_rest : (x : ℕ) (l : List ℕ) → below x l + length (at_or_above x l) ≡ length l
unfolding below at_or_above keep
below_rest x [] = refl
below_rest x (y ∷ l) = ⊎_elim (λ h. low h (below_rest x l)) (λ h. high h (below_rest x l)) (below_or y x)
  where
    low : y < x → length (keep (λ z. ltb z x) l) + length (keep (λ z. leb x z) l) ≡ length l
        → length (pick (ltb y x) (y ∷ keep (λ z. ltb z x) l) (keep (λ z. ltb z x) l)) + length (pick (leb x y) (y ∷ keep (λ z. leb x z) l) (keep (λ z. leb x z) l)) ≡ suc (length l)
    low h ih = rw (lt-ltb y x h, lt-leb x y h) (omega (arith, ih))

    high : x ≤ y → length (keep (λ z. ltb z x) l) + length (keep (λ z. leb x z) l) ≡ length l
        → length (pick (ltb y x) (y ∷ keep (λ z. ltb z x) l) (keep (λ z. ltb z x) l)) + length (pick (leb x y) (y ∷ keep (λ z. leb x z) l) (keep (λ z. leb x z) l)) ≡ suc (length l)
    high h ih = rw (le-ltb y x h, le-leb x y h) (omega (arith, ih))

-- a later position has no fewer below it
pub below-grows : (x y : ℕ) (l : List ℕ) → x ≤ y → below x l ≤ below y l
unfolding below keep
below-grows x y [] h = omega arith
below-grows x y (z ∷ l) h =
    ⊎_elim (λ g. rw (lt-ltb z x g, lt-ltb z y (omega arith)) (omega (arith, below-grows x y l h)))
    (λ g. rw (le-ltb z x g) (wider (ltb z y) (below-grows x y l h))) (below_or z x)
  where
    wider : (t : Bool) → length (keep (λ w. ltb w x) l) ≤ length (keep (λ w. ltb w y) l)
        → length (keep (λ w. ltb w x) l) ≤ length (pick t (z ∷ keep (λ w. ltb w y) l) (keep (λ w. ltb w y) l))
    wider true ih = omega (arith, ih)
    wider false ih = ih

-- ---- an accepted bitmap of the set l
module _ (s l : List ℕ) (e : judge s ≡ found l) where
  -- probe is exactly membership
  pub probe-member : (x : ℕ) → probe s x ≡ found (mem x l)
  unfolding probe
  probe-member x = rw e

  -- rank counts the members below
  pub rank-counts : (x : ℕ) → rank s x ≡ found (tally (λ y. one (mem y l)) 0 x)
  unfolding rank
  rank-counts x = rw e (ap found (below-counts 2097152 0 l x (judge-set s l e)))

  -- the cardinality counts all members
  pub check-counts : check s ≡ found (tally (λ y. one (mem y l)) 0 2097152)
  unfolding check
  check-counts =
      rw e (ap found (sym (below_all 2097152 0 l 2097152 (judge-set s l e) (omega arith)) ∙ below-counts 2097152 0 l 2097152 (judge-set s l e)))

-- ---- refused bytes get the same refusal from each call
module _ (s : List ℕ) (n : ℕ) (e : judge s ≡ refused n) where
  pub check-refused : check s ≡ refused n
  unfolding check
  check-refused = rw e

  pub probe-refused : (x : ℕ) → probe s x ≡ refused n
  unfolding probe
  probe-refused x = rw e

  pub rank-refused : (x : ℕ) → rank s x ≡ refused n
  unfolding rank
  rank-refused x = rw e
