-- The numbers of a list that are over b.
use Rattle.std.specs.Prelude.{ℕ, List, ltb}
use Rattle.common.specs.Lists.{keep}

unfoldable pub over : ℕ → List ℕ → List ℕ
over b ws = keep (λ w. ltb b w) ws
