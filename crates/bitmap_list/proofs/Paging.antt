-- A page that fills: the members given so far and those that are left are all at or above the place.
-- Assumes nothing.
use mathlib.Core.Path.{◌≡◌, refl, sym, ap, ◌∙◌}
use mathlib.Core.Bool.{true, false}
use mathlib.Core.List.{List, [], ◌∷◌, ◌++◌, map, append_assoc}
use Prim.Native.Nat.{ℕ, suc, ◌+◌, ◌*◌, ◌≤◌, ◌<◌}
use native.Mathlib.Numerals.{add-one}
use native.Mathlib.Omega.{arith}
use borrow.Author.Tests.{le-leb, lt-leb}
use lib.ListN.{length, get_or, take, drop, set, length-set, length-append, take-append-drop, drop_of_length-le}
use lib.Seq.{take-suc-set, drop-set-lt, drop-drop, drop-cons, take_at, take_all, length-take-le}
use Rattle.common.specs.Lists.{keep}
use Rattle.bitmap_spec.specs.Judge.{size_of, container, members_from}
use Rattle.bitmap_spec.specs.Ask.{at_or_above, place_after}
use Rattle.judge.proofs.Walking.{rest-none}
use Rattle.bitmap_read.proofs.Held.{Walk, walk-cons}
use Rattle.bitmap_list.specs.Post.{Filled}
use Rattle.bitmap_list.proofs.Decoding.{append-none}
use Rattle.bitmap_list.proofs.Skipping.{above-cat}

pub after_last : (p : ℕ) (l : List ℕ) (x : ℕ) → place_after p (l ++ (x ∷ [])) ≡ x + 1
unfolding place_after
after_last p [] x = refl
after_last p (y ∷ l) x = after_last (y + 1) l x

after_none : (p : ℕ) → place_after p [] ≡ p
unfolding place_after
after_none p = refl

-- out is the list now, the first given of it are members, and rest are those of all that are left
pub record Paging (before out : List ℕ) (given place next : ℕ) (rest all : List ℕ) : Type 0 where
  pub same : length out ≡ length before
  pub fits : given ≤ length out
  pub kept : drop given out ≡ drop given before
  pub sofar : take given out ++ rest ≡ all
  pub after : next ≡ place_after place (take given out)

pub page-start : (before : List ℕ) (place : ℕ) (all : List ℕ) → Paging before before 0 place place all all
page-start before place all = record { same = refl; fits = omega arith; kept = refl; sofar = refl; after = sym (after_none place) }

pub page-rest : (before out : List ℕ) (given place next : ℕ) (rest rest' all : List ℕ) → rest ≡ rest' → Paging before out given place next rest all → Paging before out given place next rest' all
page-rest before out given place next rest rest' all e g = rw (← e) g

module _ (before out : List ℕ) (given place next : ℕ) where
  pub page-put : (x : ℕ) (rest all : List ℕ) → Paging before out given place next (x ∷ rest) all → given < length out → Paging before (set out given x) (given + 1) place (x + 1) rest all
  page-put x rest all g l =
      let t : take (given + 1) (set out given x) ≡ take given out ++ (x ∷ []) = rw (add-one given) (take-suc-set out given x l) in
      record {
        same = length-set out given x ∙ g.same;
        fits = rw (length-set out given x) (omega arith);
        kept = drop-set-lt (given + 1) out given x (omega arith) ∙ sym (drop-drop 1 given out) ∙ ap (drop 1) g.kept ∙ drop-drop 1 given before;
        sofar = rw t (append_assoc (take given out) (x ∷ []) rest ∙ g.sofar);
        after = sym (rw t (after_last place (take given out) x));
      }

  -- the list is full and a member is left
  pub page-full : (x : ℕ) (rest all : List ℕ) → Paging before out given place next (x ∷ rest) all → given ≡ length out → Filled all place before out (record { given = given; place = next; all = false })
  page-full x rest all g e =
      let n : length (take given out) ≡ given = length-take-le given out g.fits in
      let q : take (length before) all ≡ take given out = rw (← g.sofar) (take_at (take given out) (x ∷ rest) (length before) (omega (arith, g.same))) in
      let m : length all ≡ given + suc (length rest) = rw (← g.sofar) (length-append (take given out) (x ∷ rest) ∙ ap (λ (k : ℕ). k + suc (length rest)) n) in
      record {
        given = rw q (sym n);
        next = rw q g.after;
        all = sym (lt-leb (length all) (length before) (omega (arith, g.same)));
        holds = rw (q, n, ← g.kept) (sym (take-append-drop given out));
      }

  -- no member is left
  pub page-end : (all : List ℕ) → Paging before out given place next [] all → Filled all place before out (record { given = given; place = next; all = true })
  page-end all g =
      let n : length (take given out) ≡ given = length-take-le given out g.fits in
      let a : take given out ≡ all = sym (append-none (take given out)) ∙ g.sofar in
      let m : length all ≡ given = ap length (sym a) ∙ n in
      let q : take (length before) all ≡ take given out = take_all (length before) all (omega (arith, g.same, g.fits)) ∙ sym a in
      record {
        given = rw q (sym n);
        next = rw q g.after;
        all = sym (le-leb (length all) (length before) (omega (arith, g.same, g.fits)));
        holds = rw (q, n, ← g.kept) (sym (take-append-drop given out));
      }

-- ---- what is left inside container k: members of c from the one numbered j on, then more
unfoldable pub left : ℕ → ℕ → List ℕ → ℕ → List ℕ → List ℕ
left p k c j more = at_or_above p (map (λ i. k * 256 + i) (drop j c)) ++ more

module _ (p k : ℕ) (c : List ℕ) (j : ℕ) (more : List ℕ) where
  pub left-on : j < length c → p ≤ k * 256 + get_or c j 0 → left p k c j more ≡ (k * 256 + get_or c j 0) ∷ left p k c (j + 1) more
  unfolding left at_or_above keep
  left-on l h = rw (add-one j, drop-cons c j 0 l, le-leb p (k * 256 + get_or c j 0) h)

  pub left-off : j < length c → k * 256 + get_or c j 0 < p → left p k c j more ≡ left p k c (j + 1) more
  unfolding left at_or_above keep
  left-off l h = rw (add-one j, drop-cons c j 0 l, lt-leb p (k * 256 + get_or c j 0) h)

  pub left-none : length c ≤ j → left p k c j more ≡ more
  unfolding left at_or_above keep
  left-none h = rw (drop_of_length-le c {i = j} h)

-- ---- along a walk
module _ (s d : List ℕ) (n at k p : ℕ) (w : Walk s d n at k) where
  pub page-open : k < n → at_or_above p (members_from s k at (drop k (take n d))) ≡ left p k (container s at (get_or d k 0)) 0 (at_or_above p (members_from s (k + 1) (at + size_of (get_or d k 0)) (drop (k + 1) (take n d))))
  unfolding left members_from
  page-open more =
      rw (walk-cons s d n at k w more, ← add-one k)
      (above-cat p (map (λ i. k * 256 + i) (container s at (get_or d k 0))) (members_from s (k + 1) (at + size_of (get_or d k 0)) (drop (k + 1) (take n d))))

  pub page-done : n ≤ k → at_or_above p (members_from s k at (drop k (take n d))) ≡ []
  unfolding members_from at_or_above keep
  page-done h = rw (rest-none d n k w.long h)

  pub page-enter : (before out : List ℕ) (given next : ℕ) (all : List ℕ) → k < n → Paging before out given p next (at_or_above p (members_from s k at (drop k (take n d)))) all
      → Paging before out given p next (left p k (container s at (get_or d k 0)) 0 (at_or_above p (members_from s (k + 1) (at + size_of (get_or d k 0)) (drop (k + 1) (take n d))))) all
  page-enter before out given next all more g = page-rest before out given p next _ _ all (page-open more) g

  pub page-last : (before out : List ℕ) (given next : ℕ) (all : List ℕ) → n ≤ k → Paging before out given p next (at_or_above p (members_from s k at (drop k (take n d)))) all
      → Filled all p before out (record { given = given; place = next; all = true })
  page-last before out given next all h g = page-end before out given p next all (page-rest before out given p next _ _ all (page-done h) g)

-- ---- member j of the container at hand, k * 256 + y
module _ (before out : List ℕ) (given place next k : ℕ) (c : List ℕ) (j : ℕ) (more all : List ℕ) (g : Paging before out given place next (left place k c j more) all) where
  pub page-over : (more' : List ℕ) → length c ≤ j → more ≡ more' → Paging before out given place next more' all
  page-over more' h e = page-rest before out given place next _ _ all (left-none place k c j more h ∙ e) g

  module _ (y : ℕ) (is : y ≡ get_or c j 0) (l : j < length c) where
    at-or-above : place ≤ k * 256 + y → Paging before out given place next ((k * 256 + y) ∷ left place k c (j + 1) more) all
    at-or-above h = page-rest before out given place next _ _ all (rw is (left-on place k c j more l (rw (← is) h))) g

    pub page-on : place ≤ k * 256 + y → (given ≡ length out → ⊥) → Paging before (set out given (k * 256 + y)) (given + 1) place (k * 256 + y + 1) (left place k c (j + 1) more) all
    page-on h f = page-put before out given place next (k * 256 + y) (left place k c (j + 1) more) all (at-or-above h) (omega (arith, g.fits))

    pub page-off : k * 256 + y < place → Paging before out given place next (left place k c (j + 1) more) all
    page-off h = page-rest before out given place next _ _ all (left-off place k c j more l (rw (← is) h)) g

    pub page-stop : place ≤ k * 256 + y → given ≡ length out → Filled all place before out (record { given = given; place = next; all = false })
    page-stop h f = page-full before out given place next (k * 256 + y) (left place k c (j + 1) more) all (at-or-above h) f
