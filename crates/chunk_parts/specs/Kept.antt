-- The exceptions of a chunk at the width b, by the widths of its values.
use Rattle.std.specs.Prelude.{ℕ, Bool, List, get_or, ltb}
use Rattle.common.specs.Lists.{keep, from}

unfoldable pub is_over : List ℕ → ℕ → ℕ → Bool
is_over ws b i = ltb b (get_or ws i 0)

-- the offsets of the exceptions among the first n values
unfoldable pub offsets : List ℕ → ℕ → ℕ → List ℕ
offsets ws b n = keep (is_over ws b) (from 0 n)
