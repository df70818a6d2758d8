-- The fault's five numbers.
-- Assumes nothing.
use mathlib.Core.Path.{refl}
use Rattle.bitmap_explain_spec.specs.Told.{numbers}
use Rattle.c_explain.proofs.bitmap_explain.Goals as goal

pub returns-in-Some : goal.returns-in-Some
unfolding numbers
returns-in-Some c = (refl, rw c.into.ensures c.in-Some.ensures)
