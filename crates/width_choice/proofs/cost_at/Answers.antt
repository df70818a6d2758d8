-- The count of wider values, put into the cost formula.
-- Assumes nothing.
use native.Mathlib.Omega.{arith}
use Rattle.width_choice.proofs.Thresholds.{less, length-less, cost-is}
use Rattle.width_choice.proofs.cost_at.Goals as goal

pub returns : goal.returns
returns c =
    let long = length-less c.args.m c.args.ds.now in
    omega (
      arith,
      c.packed_size.ensures.0,
      c.packed_size-2.ensures.0,
      cost-is (less c.args.m c.args.ds.now) _ c.args.b c.wider_of-e.result c.args.w long c.wider_of-e.ensures.0 c.requires.2,
    )
