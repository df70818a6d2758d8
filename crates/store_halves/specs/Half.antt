-- An owner's entries, and what judging a half's saved entries promises.
use Rattle.std.specs.Prelude.{ℕ, ◌≤◌, ◌<◌, ◌≡◌, ◌⊎◌, List, [], Option, Some, None}
use Rattle.common.specs.Outcome.{refused, found}
use Rattle.store_spec.specs.Store.{entries_of, total}
use Rattle.store_spec.specs.Owners.{half, part}
use Rattle.store_spec.specs.Saved.{Scan, scan}

-- the entries of owner o
abbrev pub held : ℕ → List ℕ → List ℕ → List (List ℕ)
held o dir buf = entries_of 32 (part o 64 dir) (part o (half buf) buf)

-- 32 entries of s from `first` on: bad, or together longer than h; or where they end
unfoldable pub Ends : List ℕ → ℕ → ℕ → Option ℕ → Type 0
Ends s first h None =
    (scan s first [] 32 ≡ refused 42) ⊎ ((x : Scan) × (scan s first [] 32 ≡ found x) × (h < total x.held))
Ends s first h (Some next) =
    (x : Scan) × (scan s first [] 32 ≡ found x) × (next ≡ x.next) × (total x.held ≤ h)
