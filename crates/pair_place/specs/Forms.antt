-- What the parts of a combining call leave in the output.
use Rattle.std.specs.Prelude.{ℕ, ◌≡◌, Result, List, map, length}
use Rattle.common.specs.Lists.{from}
use Rattle.bitmap_spec.specs.Form.{form, cut, write_containers}
use Rattle.bitmap_spec.specs.Output.{written, placed, Gives}
use Rattle.common.specs.declared.Refusal.{Refusal}
use Rattle.form_write.specs.Described.{descs_to, Describes}
use Rattle.pair_write.specs.Sides.{Reaches}
use Rattle.pair_write.specs.declared.Reached.{Reached}
use Rattle.judge.specs.declared.set.Set.{Set}

-- card, ds and body are the cardinality, the descriptors and the containers of the set l
pub record FormOf (l : List ℕ) (card : ℕ) (ds body : List ℕ) : Type 0 where
  pub describes : Describes l (length ds) card ds
  pub bytes : body ≡ write_containers (map (cut l) (from 0 (length ds)))

-- they are those of some set
pub record Described (card : ℕ) (ds body : List ℕ) : Type 0 where
  pub set : List ℕ
  pub formed : FormOf set card ds body

-- a call gives the form of each such set
abbrev pub GivesForm : ℕ → List ℕ → List ℕ → List ℕ → List ℕ → Result ℕ Refusal → Type 0
GivesForm card ds body before rest r =
    (l : List ℕ) → FormOf l card ds body → Gives (placed (form l) (length before)) before rest r

-- all n containers were passed: their descriptors are in ds, and their bytes in the output from at on
pub record Passed (l : List ℕ) (x y : Set) (n : ℕ) (ds₀ ds before out : List ℕ) (at : ℕ)
    (r : Reached) : Type 0 where
  pub reached : Reaches l x y n r
  pub descs : ds ≡ written ds₀ 0 (descs_to l n)
  pub bytes : out ≡ written before at (write_containers (map (cut l) (from 0 n)))
