-- What a page promises: its answer, and the list that it leaves.
use Rattle.std.specs.Prelude.{ℕ, ◌+◌, ◌*◌, ◌≤◌, ◌≡◌, Result, List, ◌++◌, length, take, drop, leb, eqb}
use Rattle.common.specs.Outcome.{Outcome, refused, found}
use Rattle.common.specs.Lists.{from, keep}
use Rattle.bitmap_spec.specs.Bits.{bit}
use Rattle.bitmap_spec.specs.Judge.{dense}
use Rattle.common.specs.declared.Refusal.{Refusal}
use Rattle.common.specs.Refusal.{outcome}
use Rattle.bitmap_spec.specs.Ask.{Page, place_after}
use Rattle.bitmap_list.specs.declared.given.Page as page
use Rattle.bitmap_list.specs.declared.Run.{Run}

-- what a page's outcome says: how many members it gives, and where the listing then stands
unfoldable pub stand_of : Outcome Page → Outcome page.Page
stand_of (refused n) = refused n
stand_of (found p) = found (record { given = length p.given; next = p.next })

-- the list after the call: the members given, "the rest of the list is unchanged"; unchanged after a refusal
unfoldable pub list_after : Outcome Page → List ℕ → List ℕ
list_after (refused n) before = before
list_after (found p) before = p.given ++ drop (length p.given) before

-- a call of outcome o answers r and turns the list before into after
pub record Pages (o : Outcome Page) (before after : List ℕ) (r : Result page.Page Refusal) : Type 0 where
  pub says : outcome r ≡ stand_of o
  pub holds : after ≡ list_after o before

-- of the members l, all at or above the place, the first are written, as many as the list takes
pub record Filled (l : List ℕ) (place : ℕ) (before after : List ℕ) (r : Run) : Type 0 where
  pub given : r.given ≡ length (take (length before) l)
  pub next : r.place ≡ place_after place (take (length before) l)
  pub all : r.all ≡ leb (length l) (length before)
  pub holds : after ≡ take (length before) l ++ drop (length (take (length before) l)) before

-- where d says dense, out holds the members of the container at byte at
abbrev pub Decoded : List ℕ → ℕ → ℕ → List ℕ → Type 0
Decoded s at d out = 32 ≤ d → take (length (dense s at)) out ≡ dense s at

-- the first j bits are passed, and the n set ones among them are written
pub record Spread (s : List ℕ) (at : ℕ) (out : List ℕ) (n j : ℕ) : Type 0 where
  pub upto : j ≤ 256
  pub less : n ≤ j
  pub long : length out ≡ 256
  pub is : take n out ≡ keep (λ i. eqb (bit s (at * 8 + i)) 1) (from 0 j)
