-- By definition.
-- Assumes nothing.
use mathlib.Core.Path.{refl}
use Rattle.bitmap_explain_spec.specs.Told.{numbers}
use Rattle.bitmap_explain_walk.proofs.fault_of_whole.Goals as goal

pub returns : goal.returns
unfolding numbers
returns c = refl
