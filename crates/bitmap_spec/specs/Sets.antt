-- Sets of positions, as strictly rising lists, and the four operations on them.
use Rattle.std.specs.Prelude.{ℕ, ◌*◌, max, Bool, true, false, not, ◌≡◌, List}
use Rattle.common.specs.Lists.{from, keep, mem, rising}
use Rattle.bitmap_spec.specs.Form.{count_of}
use Rattle.bitmap_spec.specs.declared.Operation.{Operation}
use Rattle.bitmap_spec.specs.declared.Operation.TheVariants.{Union, Intersection, Difference, SymmetricDifference}

-- "each strictly rising list of positions below 2,097,152"
abbrev pub IsSet : List ℕ → Type 0
IsSet l = rising 2097152 0 l ≡ true

-- "union (in at least one set), intersection (in both), difference (only in the first), either-but-not-both (in exactly one)":
-- whether a position is in the result, from whether it is in the first set and in the second
abbrev pub holds : Operation → Bool → Bool → Bool
holds Union true b = true
holds Union false b = b
holds Intersection true b = b
holds Intersection false b = false
holds Difference true b = not b
holds Difference false b = false
holds SymmetricDifference true b = not b
holds SymmetricDifference false b = b

-- the positions that the operation keeps, in rising order; none lies past the last container of either set
unfoldable pub combine : Operation → List ℕ → List ℕ → List ℕ
combine o a b = keep (λ x. holds o (mem x a) (mem x b)) (from 0 (max (count_of a) (count_of b) * 256))
