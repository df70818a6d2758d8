-- The widest value is that of the largest descriptor.
-- Assumes nothing.
use mathlib.Core.Path.{ap, ◌∙◌}
use Prim.Native.Nat.{◌-◌}
use native.Mathlib.Omega.{arith}
use Rattle.bitmap_spec.specs.Form.{width}
use Rattle.width_choice.proofs.Thresholds.{widest-is, width-le, least-largest}
use Rattle.width_choice.proofs.largest_width.Goals as goal

pub overflow_sub-largest_of : goal.overflow_sub-largest_of
overflow_sub-largest_of c =
    omega (arith, least-largest c.args.ds.now, c.largest_of.ensures, c.requires)

pub returns : goal.returns
returns c = (
  c.width_of.ensures ∙ ap (λ x. width (x - c.args.m)) c.largest_of.ensures ∙ widest-is c.args.m c.args.ds.now,
  omega (arith, c.width_of.ensures, width-le (c.largest_of.result - c.args.m)),
)
