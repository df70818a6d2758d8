-- Asking a bitmap: its cardinality, a position's membership and rank, and pages of its members.
use Rattle.std.specs.Prelude.{ℕ, ◌+◌, Bool, true, false, List, [], ◌∷◌, length, take, leb, ltb}
use Rattle.common.specs.Outcome.{pick, Outcome, found, then}
use Rattle.common.specs.Lists.{keep, mem}
use Rattle.bitmap_spec.specs.Judge.{judge}
use Rattle.bitmap_spec.specs.declared.Listing.{Listing}

-- how many members lie below x
unfoldable pub below : ℕ → List ℕ → ℕ
below x l = length (keep (λ y. ltb y x) l)

-- "each call checks the whole bitmap first"
unfoldable pub check : List ℕ → Outcome ℕ
check s = then (judge s) (λ l. found (length l))

-- "probe answers whether a position is a member"
unfoldable pub probe : List ℕ → ℕ → Outcome Bool
probe s x = then (judge s) (λ l. found (mem x l))

-- "rank answers how many members lie below it"
unfoldable pub rank : List ℕ → ℕ → Outcome ℕ
rank s x = then (judge s) (λ l. found (below x l))

-- ---- pages

-- the members at or above the place p
unfoldable pub at_or_above : ℕ → List ℕ → List ℕ
at_or_above p l = keep (λ x. leb p x) l

-- "the last member given plus 1, or stays if none was given"
unfoldable pub place_after : ℕ → List ℕ → ℕ
place_after p [] = p
place_after p (x ∷ xs) = place_after (x + 1) xs

abbrev pub none : List ℕ → Bool
none [] = true
none (x ∷ xs) = false

-- the members that a page gives, and where the listing then stands
pub record Page : Type 0 where
  pub given : List ℕ
  pub next : Listing

-- with these members given: "the mark is set exactly if no member remains"
unfoldable pub page_of : List ℕ → ℕ → List ℕ → Page
page_of l p given = record {
  given = given;
  next = record { place = place_after p given; finished = none (at_or_above (place_after p given) l) };
}

-- "a page holds the first members at or above that place, as many as the room takes";
-- "a finished listing gives nothing and changes nothing"
unfoldable pub page_in : List ℕ → Listing → ℕ → Page
page_in l at room =
    pick at.finished (record { given = []; next = at })
    (page_of l at.place (take room (at_or_above at.place l)))

-- "the bitmap is judged first, also for a finished listing"
unfoldable pub page : List ℕ → Listing → ℕ → Outcome Page
page s at room = then (judge s) (λ l. found (page_in l at room))
