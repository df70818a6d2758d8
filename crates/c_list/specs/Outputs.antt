-- The memory that the page calls of tables read and write.
use Rattle.std.specs.Prelude.{ℕ, ◌+◌, List}
use Rattle.common.specs.Outcome.{Outcome, Call}
use Rattle.row_spec.specs.Page.{Page, written}

-- the list, the place, how many rows were given, and how many there are
pub record Listing : Type 0 where
  pub list : List ℕ
  pub place : ℕ
  pub given : ℕ
  pub rows : ℕ

-- what a page makes of it: the numbers of its fields and the rest of the list, the place behind its rows, and the two
-- counts
unfoldable pub turned : Listing → Page → Listing
turned m x = record {
  list = written x.fields m.list;
  place = m.place + x.given;
  given = x.given;
  rows = x.rows;
}

-- a page call of outcome o returns r and turns the memory before into now
abbrev pub PageCall : Outcome Page → ℕ → Listing → Listing → Type 0
PageCall o r before now = Call o (turned before) r before now
