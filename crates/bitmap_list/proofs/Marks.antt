-- The finished mark: after a page no member remains exactly if the list had room for all at or above the place.
-- Assumes nothing.
use mathlib.Core.Path.{◌≡◌, refl, sym, ap, ◌∙◌}
use mathlib.Core.Logic.{⊎_elim}
use mathlib.Core.Bool.{true}
use mathlib.Core.List.{List, [], ◌∷◌}
use Prim.Native.Nat.{ℕ, zero, suc, ◌+◌, ◌≤◌, ◌<◌}
use native.Mathlib.Omega.{arith}
use borrow.Author.Tests.{le-leb, lt-leb}
use lib.ListN.{length, take, drop}
use lib.Dec.{leb}
use Rattle.common.specs.Lists.{keep, rising}
use Rattle.bitmap_spec.specs.Ask.{at_or_above, place_after, none}
use Rattle.bitmap_spec.proofs.Window.{below_or}
use Rattle.bitmap_laws.proofs.Members.{head_ok}
use Rattle.bitmap_laws.proofs.Rise.{cons_ok, weaker}

-- all of a rising list lies at or above where it starts
pub above-all : (n lo : ℕ) (l : List ℕ) (p : ℕ) → rising n lo l ≡ true → p ≤ lo → at_or_above p l ≡ l
unfolding at_or_above keep
above-all n lo [] p e h = refl
above-all n lo (x ∷ l) p e h =
    let o = head_ok n lo x l e in
    rw (le-leb p x (omega arith)) (ap (λ (t : List ℕ). x ∷ t) (above-all n (suc x) l p o.2 (omega arith)))

-- those at or above p rise from p on
pub above-up : (n lo : ℕ) (l : List ℕ) (p : ℕ) → rising n lo l ≡ true → rising n p (at_or_above p l) ≡ true
unfolding at_or_above keep rising
above-up n lo [] p e = refl
above-up n lo (x ∷ l) p e = ⊎_elim (λ h. rw (lt-leb p x h) (above-up n (suc x) l p o.2)) (λ h. rw (le-leb p x h) (on h)) (below_or x p)
  where
    o : (lo ≤ x) × (x < n) × (rising n (suc x) l ≡ true)
    o = head_ok n lo x l e

    on : p ≤ x → rising n p (x ∷ keep (λ y. leb p y) l) ≡ true
    on h = cons_ok n p x (keep (λ y. leb p y) l) h o.1 (rw (above-all n (suc x) l p o.2 (omega arith)) o.2)

-- a later place keeps less
module _ (p q x : ℕ) (l : List ℕ) (h : p ≤ q) (ih : keep (λ y. leb q y) (keep (λ y. leb p y) l) ≡ keep (λ y. leb q y) l) where
  one_more : keep (λ y. leb q y) (keep (λ y. leb p y) (x ∷ l)) ≡ keep (λ y. leb q y) (x ∷ l)
  unfolding keep
  one_more =
      ⊎_elim (λ g. rw (lt-leb p x g, lt-leb q x (omega arith)) ih)
      (λ g. ⊎_elim (λ m. rw (le-leb p x g, lt-leb q x m) ih) (λ m. rw (le-leb p x g, le-leb q x m) (ap (λ (t : List ℕ). x ∷ t) ih)) (below_or x q)) (below_or x p)

above-twice : (p q : ℕ) (l : List ℕ) → p ≤ q → at_or_above q (at_or_above p l) ≡ at_or_above q l
unfolding at_or_above keep
above-twice p q [] h = refl
above-twice p q (x ∷ l) h = one_more p q x l h (above-twice p q l h)

-- the place moves up
pub after-up : (n p : ℕ) (l : List ℕ) (r : ℕ) → rising n p l ≡ true → p ≤ place_after p (take r l)
unfolding place_after
after-up n p l zero e = omega arith
after-up n p [] (suc r) e = omega arith
after-up n p (x ∷ l) (suc r) e =
    let o = head_ok n p x l e in
    omega (arith, after-up n (x + 1) l r (weaker n n (x + 1) (suc x) l (omega arith) (omega arith) o.2))

-- what lies at or above the place after a page is what the page left
passed : (q x : ℕ) (l : List ℕ) → x < q → at_or_above q (x ∷ l) ≡ at_or_above q l
unfolding at_or_above keep
passed q x l h = rw (lt-leb q x h)

left_after : (n p : ℕ) (l : List ℕ) (r : ℕ) → rising n p l ≡ true → at_or_above (place_after p (take r l)) l ≡ drop r l
unfolding place_after
left_after n p l zero e = above-all n p l p e (omega arith)
left_after n p [] (suc r) e = above-all n p [] p e (omega arith)
left_after n p (x ∷ l) (suc r) e =
    let o = head_ok n p x l e in
    let up = weaker n n (x + 1) (suc x) l (omega arith) (omega arith) o.2 in
    passed (place_after (x + 1) (take r l)) x l (omega (arith, after-up n (x + 1) l r up)) ∙ left_after n (x + 1) l r up

none_left : (l : List ℕ) (r : ℕ) → none (drop r l) ≡ leb (length l) r
none_left [] zero = sym (le-leb 0 0 (omega arith))
none_left (x ∷ l) zero = sym (lt-leb (suc (length l)) 0 (omega arith))
none_left [] (suc r) = sym (le-leb 0 (suc r) (omega arith))
none_left (x ∷ l) (suc r) = none_left l r ∙ suc-leb (length l) r
  where
    suc-leb : (a b : ℕ) → leb a b ≡ leb (suc a) (suc b)
    suc-leb a b = ⊎_elim (λ h. lt-leb a b h ∙ sym (lt-leb (suc a) (suc b) (omega arith))) (λ h. le-leb a b h ∙ sym (le-leb (suc a) (suc b) (omega arith))) (below_or b a)

-- the members that remain after a page of r from the place p on
pub remain : (n lo : ℕ) (l : List ℕ) (p r : ℕ) → rising n lo l ≡ true → at_or_above (place_after p (take r (at_or_above p l))) l ≡ drop r (at_or_above p l)
remain n lo l p r e =
    let up = above-up n lo l p e in
    sym (above-twice p (place_after p (take r (at_or_above p l))) l (after-up n p (at_or_above p l) r up)) ∙ left_after n p (at_or_above p l) r up

pub mark : (n lo : ℕ) (l : List ℕ) (p r : ℕ) → rising n lo l ≡ true → none (at_or_above (place_after p (take r (at_or_above p l))) l) ≡ leb (length (at_or_above p l)) r
mark n lo l p r e = ap none (remain n lo l p r e) ∙ none_left (at_or_above p l) r
