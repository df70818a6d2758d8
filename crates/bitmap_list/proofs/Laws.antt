-- Pages one after the other give the first members, as many as their rooms take together, and the mark is set exactly at the end.
-- Assumes nothing.
use mathlib.Core.Path.{◌≡◌, refl, sym, ap, ◌∙◌}
use mathlib.Core.Logic.{⊎_elim}
use mathlib.Core.Bool.{true, false}
use mathlib.Core.List.{List, [], ◌∷◌, ◌++◌}
use Prim.Native.Nat.{ℕ, ◌+◌, ◌-◌, ◌≤◌, ◌<◌}
use native.Mathlib.Nat.{add-zero}
use native.Mathlib.Omega.{arith}
use borrow.Author.Tests.{le-leb, lt-leb, ltb-true}
use lib.ListN.{length, take, drop, length-drop}
use lib.Seq.{take-add, take_all}
use lib.Dec.{leb, ltb}
use Rattle.common.specs.Outcome.{found, then}
use Rattle.common.specs.Lists.{every, sum}
use Rattle.bitmap_spec.specs.Judge.{judge}
use Rattle.bitmap_spec.specs.Ask.{Page, page, page_in, page_of, at_or_above, place_after}
use Rattle.common.proofs.Lists.{both_left, both_right}
use Rattle.bitmap_spec.proofs.Window.{below_or}
use Rattle.bitmap_laws.proofs.Accept.{judge-set}
use Rattle.bitmap_list.specs.Rounds.{begin, pages}
use Rattle.bitmap_list.proofs.Decoding.{append-none}
use Rattle.bitmap_list.proofs.Marks.{mark, remain, above-all}

-- the first n members at or above p, and where the listing then stands
unfoldable pub firsts : List ℕ → ℕ → ℕ → Page
firsts l p n = record { given = take n (at_or_above p l); next = record { place = place_after p (take n (at_or_above p l)); finished = leb (length (at_or_above p l)) n } }

after-cat : (p : ℕ) (a b : List ℕ) → place_after (place_after p a) b ≡ place_after p (a ++ b)
unfolding place_after
after-cat p [] b = refl
after-cat p (x ∷ a) b = after-cat (x + 1) a b

leb-less : (a r m : ℕ) → r < a → leb (a - r) m ≡ leb a (r + m)
leb-less a r m h =
    ⊎_elim (λ g. lt-leb (a - r) m g ∙ sym (lt-leb a (r + m) (omega arith))) (λ g. le-leb (a - r) m g ∙ sym (le-leb a (r + m) (omega arith))) (below_or m (a - r))

sum-cons : (r : ℕ) (rs : List ℕ) → sum (λ x. x) (r ∷ rs) ≡ r + sum (λ x. x) rs
unfolding sum
sum-cons r rs = refl

-- rooms over 0 take as many members as there are rooms
enough : (rs : List ℕ) → every (λ x. ltb 0 x) rs ≡ true → length rs ≤ sum (λ x. x) rs
unfolding every sum
enough [] e = omega arith
enough (r ∷ rs) e =
    omega (arith, ltb-true 0 r (both_left (ltb 0 r) _ e), enough rs (both_right (ltb 0 r) _ e))

module _ (s l : List ℕ) (e : judge s ≡ found l) where
  -- one page
  first : (p r : ℕ) → page s (record { place = p; finished = false }) r ≡ found (firsts l p r)
  unfolding page page_in page_of firsts
  first p r = rw (e, mark 2097152 0 l p r (judge-set s l e))

  once-finished : (p r : ℕ) → page s (record { place = p; finished = true }) r ≡ found (record { given = []; next = record { place = p; finished = true } })
  unfolding page page_in
  once-finished p r = rw e

  -- a finished listing gives nothing and changes nothing, however often it is asked
  pub stays-finished : (p : ℕ) (rs : List ℕ) → pages s (record { place = p; finished = true }) rs ≡ found (record { given = []; next = record { place = p; finished = true } })
  unfolding pages
  stays-finished p [] = refl
  stays-finished p (r ∷ rs) = rw (once-finished p r, stays-finished p rs)

  -- what a page and those after it give together
  two : (p r m : ℕ) → r < length (at_or_above p l)
      → found (record { given = take r (at_or_above p l) ++ (firsts l (place_after p (take r (at_or_above p l))) m).given; next = (firsts l (place_after p (take r (at_or_above p l))) m).next }) ≡ found (firsts l p (r + m))
  unfolding firsts
  two p r m h =
      let q = remain 2097152 0 l p r (judge-set s l e) in
      rw (q, after-cat p (take r (at_or_above p l)) (take m (drop r (at_or_above p l))), ← take-add r m (at_or_above p l), length-drop r (at_or_above p l), leb-less (length (at_or_above p l)) r m h)

  all-given : (p r m : ℕ) → length (at_or_above p l) ≤ r
      → found (record { given = take r (at_or_above p l) ++ []; next = record { place = place_after p (take r (at_or_above p l)); finished = true } }) ≡ found (firsts l p (r + m))
  unfolding firsts
  all-given p r m h =
      rw (take_all r (at_or_above p l) h, take_all (r + m) (at_or_above p l) (omega arith), append-none (at_or_above p l), le-leb (length (at_or_above p l)) (r + m) (omega arith))

  more : (p r m : ℕ) (rs : List ℕ) → r < length (at_or_above p l)
      → pages s (record { place = place_after p (take r (at_or_above p l)); finished = false }) rs ≡ found (firsts l (place_after p (take r (at_or_above p l))) m)
      → then (pages s (firsts l p r).next rs) (λ q. found (record { given = (firsts l p r).given ++ q.given; next = q.next })) ≡ found (firsts l p (r + m))
  unfolding firsts
  more p r m rs h ih = rw (lt-leb (length (at_or_above p l)) r h, ih) (two p r m h)

  done : (p r m : ℕ) (rs : List ℕ) → length (at_or_above p l) ≤ r
      → then (pages s (firsts l p r).next rs) (λ q. found (record { given = (firsts l p r).given ++ q.given; next = q.next })) ≡ found (firsts l p (r + m))
  unfolding firsts
  done p r m rs h = rw (le-leb (length (at_or_above p l)) r h, stays-finished (place_after p (take r (at_or_above p l))) rs) (all-given p r m h)

  last : (p r : ℕ) → then (pages s (firsts l p r).next []) (λ q. found (record { given = (firsts l p r).given ++ q.given; next = q.next })) ≡ found (firsts l p (r + 0))
  unfolding pages
  last p r = rw (add-zero r, append-none (firsts l p r).given)

  pages-cons : (p r : ℕ) (rs : List ℕ)
      → pages s (record { place = p; finished = false }) (r ∷ rs) ≡ then (pages s (firsts l p r).next rs) (λ q. found (record { given = (firsts l p r).given ++ q.given; next = q.next }))
  unfolding pages
  pages-cons p r rs = rw (first p r)

  rounds : (p r : ℕ) (rs : List ℕ) → pages s (record { place = p; finished = false }) (r ∷ rs) ≡ found (firsts l p (r + sum (λ x. x) rs))
  unfolding sum
  rounds p r [] = pages-cons p r [] ∙ last p r
  rounds p r (r' ∷ rs) =
      pages-cons p r (r' ∷ rs)
      ∙ ⊎_elim (λ h. more p r (r' + sum (λ x. x) rs) (r' ∷ rs) h (rounds (place_after p (take r (at_or_above p l))) r' rs)) (λ h. done p r (r' + sum (λ x. x) rs) (r' ∷ rs) h)
      (below_or r (length (at_or_above p l)))

  -- Pages from the start on, with rooms r, rs: the first members, as many as the rooms take together. The mark is set exactly if
  -- these are all members.
  pub pages-first : (r : ℕ) (rs : List ℕ)
      → pages s begin (r ∷ rs)
      ≡ found (record { given = take (r + sum (λ x. x) rs) l; next = record { place = place_after 0 (take (r + sum (λ x. x) rs) l); finished = leb (length l) (r + sum (λ x. x) rs) } })
  unfolding firsts
  pages-first r rs = rounds 0 r rs ∙ ap (λ (k : List ℕ). found (record { given = take (r + sum (λ x. x) rs) k; next = record { place = place_after 0 (take (r + sum (λ x. x) rs) k); finished = leb (length k) (r + sum (λ x. x) rs) } })) (above-all 2097152 0 l 0 (judge-set s l e) (omega arith))

  -- with any rooms over 0, as many pages as members are the whole list, and the listing is finished
  pub pages-whole : (r : ℕ) (rs : List ℕ) → every (λ x. ltb 0 x) (r ∷ rs) ≡ true → length l ≤ length (r ∷ rs)
      → pages s begin (r ∷ rs) ≡ found (record { given = l; next = record { place = place_after 0 l; finished = true } })
  pages-whole r rs h n =
      let m = enough (r ∷ rs) h in
      let k : length l ≤ r + sum (λ x. x) rs = omega (arith, sum-cons r rs) in
      pages-first r rs ∙ rw (take_all (r + sum (λ x. x) rs) l k, le-leb (length l) (r + sum (λ x. x) rs) k)
