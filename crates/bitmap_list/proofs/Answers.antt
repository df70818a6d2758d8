-- The answer of a page: refused, finished before, or filled.
-- Assumes nothing.
use mathlib.Core.Path.{◌≡◌}
use mathlib.Core.Bool.{true, false}
use mathlib.Core.List.{List}
use Prim.Native.Nat.{ℕ}
use lib.ListN.{length}
use Rattle.common.specs.Outcome.{refused, found}
use Rattle.bitmap_spec.specs.Judge.{judge}
use Rattle.bitmap_spec.specs.Ask.{page, page_in, page_of, at_or_above}
use Rattle.bitmap_spec.specs.declared.Listing.{Listing}
use Rattle.bitmap_laws.proofs.Accept.{judge-set}
use Rattle.bitmap_list.specs.Post.{Pages, Filled, stand_of, list_after}
use Rattle.std.specs.Prelude.{Ok, Err}
use Rattle.common.specs.declared.Refusal.{Refusal}
use Rattle.common.specs.Refusal.{number}
use Rattle.bitmap_list.specs.declared.Run.{Run}
use Rattle.bitmap_list.proofs.Marks.{mark}

module _ (s : List ℕ) (at : Listing) (before : List ℕ) where
  pub refuses : (r : Refusal) → judge s ≡ refused (number r) → Pages (page s at (length before)) before before (Err r)
  unfolding page stand_of list_after
  refuses r e = record { says = rw e; holds = rw e }

  module _ (l : List ℕ) (e : judge s ≡ found l) where
    pub stays : at.finished ≡ true → Pages (page s at (length before)) before before (Ok (record { given = 0; next = at }))
    unfolding page page_in stand_of list_after
    stays f = record { says = rw (e, f); holds = rw (e, f) }

    pub gives : (after : List ℕ) (r : Run) → at.finished ≡ false → Filled (at_or_above at.place l) at.place before after r
        → Pages (page s at (length before)) before after
        (Ok (record { given = r.given; next = record { place = r.place; finished = r.all } }))
    unfolding page page_in page_of stand_of list_after
    gives after r f h =
        let m = mark 2097152 0 l at.place (length before) (judge-set s l e) in
        record { says = rw (e, f, m, h.given, h.next, h.all); holds = rw (e, f) h.holds }
