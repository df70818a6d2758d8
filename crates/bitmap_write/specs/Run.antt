-- The positions of one container lie next to each other in a rising list: its run.
use Rattle.std.specs.Prelude.{ℕ, ◌-◌, ◌%◌, ◌≤◌, ◌<◌, List, map, length, get_or, take, drop}

-- exactly the first i positions lie below b
pub record Below (ps : List ℕ) (b i : ℕ) : Type 0 where
  pub within : i ≤ length ps
  pub under : (t : ℕ) → t < i → get_or ps t 0 < b
  pub over : (t : ℕ) → i ≤ t → t < length ps → b ≤ get_or ps t 0

-- positions i to j - 1, as members of their container
unfoldable pub run : List ℕ → ℕ → ℕ → List ℕ
run ps i j = map (λ x. x % 256) (take (j - i) (drop i ps))

-- j is the first index from i on whose position is not below b, or the end
pub record Ends (ps : List ℕ) (i b j : ℕ) : Type 0 where
  pub order : i ≤ j
  pub within : j ≤ length ps
  pub under : (t : ℕ) → i ≤ t → t < j → get_or ps t 0 < b
  pub over : j < length ps → b ≤ get_or ps j 0
