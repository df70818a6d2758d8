-- What the first pass of a writer finds out about a set before a byte is written.
use Rattle.std.specs.Prelude.{ℕ, ◌-◌, ◌≤◌, ◌<◌, ◌≡◌, List, map, length, get_or}
use Rattle.common.specs.Lists.{from}
use Rattle.bitmap_spec.specs.Form.{cut, count_of, descriptor_of}
use Rattle.bitmap_spec.specs.Sets.{IsSet}

-- the descriptors of the first n containers of the set l
unfoldable pub descs_to : List ℕ → ℕ → List ℕ
descs_to l n = map descriptor_of (map (cut l) (from 0 n))

-- the set's container count, its cardinality, and its descriptors
pub record Describes (l : List ℕ) (n card : ℕ) (ds : List ℕ) : Type 0 where
  pub is_set : IsSet l
  pub count : n ≡ count_of l
  pub cardinality : card ≡ length l
  pub descs : ds ≡ descs_to l n

-- of the first n descriptors those from r on are 0, and the one before them is not
pub record Trimmed (ds : List ℕ) (n r : ℕ) : Type 0 where
  pub within : r ≤ n
  pub zeros : (k : ℕ) → r ≤ k → k < n → get_or ds k 0 ≡ 0
  pub last : 0 < r → get_or ds (r - 1) 0 ≡ 0 → ⊥
