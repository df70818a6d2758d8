-- The memory that a page call reads and writes.
use Rattle.std.specs.Prelude.{ℕ, not, List, ◌++◌, length, drop, eqb}
use Rattle.common.specs.Outcome.{Outcome, pick, one, Call}
use Rattle.bitmap_spec.specs.Ask.{Page}
use Rattle.bitmap_spec.specs.declared.Listing.{Listing}

-- a listing in two numbers: of the mark, 0 is no, anything else yes
unfoldable pub listing : ℕ → ℕ → Listing
listing place mark = record { place = place; finished = not (eqb mark 0) }

-- the memory that a page call writes
pub record Memory : Type 0 where
  pub list : List ℕ
  pub given : ℕ
  pub place : ℕ
  pub mark : ℕ

-- what a page makes of it: the members and the rest of the list, how many, the place, and the mark as 0 or 1.
-- A finished listing leaves place and mark as they are and gives 0.
unfoldable pub turned : Memory → Page → Memory
turned m p = record {
  list = p.given ++ drop (length p.given) m.list;
  given = length p.given;
  place = p.next.place;
  mark = pick (eqb m.mark 0) (one p.next.finished) m.mark;
}

-- a page call of outcome o returns r and turns the memory before into now
abbrev pub PageCall : Outcome Page → ℕ → Memory → Memory → Type 0
PageCall o r before now = Call o (turned before) r before now
