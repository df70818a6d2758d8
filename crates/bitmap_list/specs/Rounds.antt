-- Pages one after the other, each from where the last one left the listing.
use Rattle.std.specs.Prelude.{ℕ, false, List, [], ◌∷◌, ◌++◌}
use Rattle.common.specs.Outcome.{Outcome, found, then}
use Rattle.bitmap_spec.specs.Ask.{Page, page}
use Rattle.bitmap_spec.specs.declared.Listing.{Listing}

-- where a listing starts
abbrev pub begin : Listing
begin = record { place = 0; finished = false }

-- all that the pages give, with these rooms, and where the listing stands after them
unfoldable pub pages : List ℕ → Listing → List ℕ → Outcome Page
pages s at [] = found (record { given = []; next = at })
pages s at (r ∷ rs) = then (page s at r) (λ p. then (pages s p.next rs) (λ q. found (record { given = p.given ++ q.given; next = q.next })))
