-- A width is what the leading zeros leave of eight bits.
-- Assumes nothing.
use Rattle.bitmap_spec.specs.Form.{width}
use mathlib.Core.Path.{refl}
use Rattle.width_choice.proofs.width_of.Goals as goal

pub returns : goal.returns
unfolding width
returns c = refl
