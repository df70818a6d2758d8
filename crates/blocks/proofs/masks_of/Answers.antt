-- The definitions, case by case.
-- Assumes nothing.
use mathlib.Core.Path.{refl}
use Rattle.blocks.specs.Block.{mask, on_first, on_second, on_both}
use Rattle.blocks.proofs.masks_of.Goals as goal

pub returns-in-Union : goal.returns-in-Union
unfolding mask on_first on_second on_both
returns-in-Union c = rw c.in-Union.is (refl, refl, refl)

pub returns-in-Intersection : goal.returns-in-Intersection
unfolding mask on_first on_second on_both
returns-in-Intersection c = rw c.in-Intersection.is (refl, refl, refl)

pub returns-in-Difference : goal.returns-in-Difference
unfolding mask on_first on_second on_both
returns-in-Difference c = rw c.in-Difference.is (refl, refl, refl)

pub returns-in-SymmetricDifference : goal.returns-in-SymmetricDifference
unfolding mask on_first on_second on_both
returns-in-SymmetricDifference c = rw c.in-SymmetricDifference.is (refl, refl, refl)
