-- What asking the set of a bitmap promises.
use Rattle.std.specs.Prelude.{ℕ, ◌≡◌, Result, Ok, Err, List, length}
use Rattle.common.specs.Outcome.{refused, found}
use Rattle.common.specs.declared.Refusal.{Refusal}
use Rattle.common.specs.Refusal.{number}
use Rattle.bitmap_spec.specs.Judge.{judge}
use Rattle.judge.specs.Post.{viewed}
use Rattle.judge.specs.declared.set.Set.{Set}

-- the members of a set
abbrev pub members : Set → List ℕ
members set = viewed set.bytes.now set.descriptors.now (length set.descriptors.now) set.start

-- the refusal; or an answer that holds of the set
abbrev pub Asked : {A : Type 0} → (Set → A → Type 0) → List ℕ → Result A Refusal → Type 0
Asked Holds s (Err r) = judge s ≡ refused (number r)
Asked Holds s (Ok a) = (set : Set) × (judge s ≡ found (members set)) × Holds set a

-- the refusal; or the set
abbrev pub Finds : List ℕ → Result Set Refusal → Type 0
Finds s (Err r) = judge s ≡ refused (number r)
Finds s (Ok set) = judge s ≡ found (members set)
