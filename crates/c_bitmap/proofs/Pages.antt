-- What the answer of a page says of its outcome, and so of the memory that the call leaves. Assumes nothing.
use mathlib.Core.Path.{◌≡◌, refl, sym, ap, ◌∙◌}
use mathlib.Core.Bool.{Bool, true, false}
use mathlib.Core.List.{List, [], ◌∷◌}
use Prim.Native.Nat.{ℕ, ◌≤◌}
use native.Mathlib.Omega.{arith}
use lib.ListN.{length, take, length-take}
use lib.Dec.{eqb, leb}
use Rattle.common.specs.Outcome.{Outcome, refused, found, then, pick, one}
use Rattle.common.specs.Lists.{keep}
use Rattle.bitmap_spec.specs.Ask.{Page, page, page_in, page_of, at_or_above}
use Rattle.bitmap_spec.specs.Judge.{judge}
use Rattle.bitmap_laws.proofs.Accept.{judge-set}
use Rattle.bitmap_laws.proofs.Rise.{rising-length}
use Rattle.bitmap_spec.specs.declared.Listing.{Listing}
use Rattle.std.specs.Prelude.{Ok, Err}
use Rattle.common.specs.declared.Refusal.{Refusal}
use Rattle.common.specs.Refusal.{number}
use Rattle.bitmap_list.specs.Post.{Pages, stand_of, list_after}
use Rattle.bitmap_list.specs.declared.given.Page as listed
use Rattle.c_bitmap.specs.Reading.{Memory, turned, PageCall}

module _ {o : Outcome Page} {after : List ℕ} (m : Memory) where
  pub refused-page : (r : Refusal) → Pages o m.list after (Err r)
      → PageCall o (number r) m (record { list = after; given = m.given; place = m.place; mark = m.mark })
  unfolding stand_of list_after
  refused-page r h = go o h.says h.holds
    where
      go : (o : Outcome Page) → refused (number r) ≡ stand_of o → after ≡ list_after o m.list
          → PageCall o (number r) m (record { list = after; given = m.given; place = m.place; mark = m.mark })
      go (refused k) q a = let z : number r ≡ k = cc in record { says = z; holds = rw a }
      go (found p) q a = absurd (let z : ◌≡◌ {A = ℕ} 0 1 = cc in omega arith)

  pub page-given : (g : listed.Page) (mark : ℕ) → Pages o m.list after (Ok g)
      → mark ≡ pick (eqb m.mark 0) (one g.next.finished) m.mark
      → PageCall o 0 m (record { list = after; given = g.given; place = g.next.place; mark = mark })
  unfolding stand_of list_after turned
  page-given g mark h k = go o h.says h.holds
    where
      go : (o : Outcome Page) → found g ≡ stand_of o → after ≡ list_after o m.list
          → PageCall o 0 m (record { list = after; given = g.given; place = g.next.place; mark = mark })
      go (refused n) q a = absurd (let z : ◌≡◌ {A = ℕ} 0 1 = cc in omega arith)
      go (found p) q a =
          let z : ◌≡◌ {A = listed.Page} g (record { given = length p.given; next = p.next }) = cc in
          record { says = refl; holds = rw (a, k, ap (λ (q : listed.Page). q.given) z, ap (λ (q : listed.Page). q.next) z) }

-- ---- a page gives few members: those of a set
keep-le : (f : ℕ → Bool) (l : List ℕ) → length (keep f l) ≤ length l
unfolding keep
keep-le f [] = omega arith
keep-le f (x ∷ xs) = go (f x) (keep-le f xs)
  where
    go : (b : Bool) → length (keep f xs) ≤ length xs → length (pick b (x ∷ keep f xs) (keep f xs)) ≤ length (x ∷ xs)
    go true h = omega arith
    go false h = omega arith

given-le : (l : List ℕ) (at : Listing) (room : ℕ) → length (page_in l at room).given ≤ length l
unfolding page_in page_of at_or_above
given-le l at room = go at.finished
  where
    above : List ℕ
    above = keep (λ x. leb at.place x) l

    go : (b : Bool)
        → length (pick b (record { given = []; next = at }) (page_of l at.place (take room above))).given ≤ length l
    go true = omega arith
    go false = omega (arith, keep-le (λ x. leb at.place x) l, length-take room above)

pub page-few : (s : List ℕ) (at : Listing) (room : ℕ) (g : listed.Page) → found g ≡ stand_of (page s at room)
    → g.given ≤ 2097152
unfolding page stand_of
page-few s at room g e = go (judge s) refl e
  where
    go : (o : Outcome (List ℕ)) → judge s ≡ o → found g ≡ stand_of (then o (λ l. found (page_in l at room)))
        → g.given ≤ 2097152
    go (refused m) q f = absurd (let z : ◌≡◌ {A = ℕ} 0 1 = cc in omega arith)
    go (found l) q f =
        let p = page_in l at room in
        let z : ◌≡◌ {A = listed.Page} g (record { given = length p.given; next = p.next }) = cc in
        let few = rising-length 2097152 0 l (omega arith) (judge-set s l q) in
        omega (arith, ap (λ (g : listed.Page). g.given) z, given-le l at room, few)
