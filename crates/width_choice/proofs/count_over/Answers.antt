-- The count so far and what is left make the whole, which a byte holds.
-- Assumes nothing.
use native.Mathlib.Omega.{arith}
use Rattle.width_choice.proofs.Steps.{over-end}
use Rattle.width_choice.proofs.Thresholds.{over-more}
use Rattle.width_choice.proofs.count_over.Goals as goal

pub overflow_add-e : goal.overflow_add-e
overflow_add-e c =
    omega (arith, over-more c.args.ds.now c.args.t c.loop-d.d-index c.loop-d-test.true, c.loop-d.invariant, c.requires)

pub loop-d-preserved : goal.loop-d-preserved
loop-d-preserved c =
    omega (arith, over-more c.args.ds.now c.args.t c.loop-d.d-index c.loop-d-test.true, c.loop-d.invariant)

pub returns : goal.returns
returns c =
    omega (arith, over-end c.args.ds.now c.args.t c.loop-d.d-index c.loop-d-test.false, c.loop-d.invariant)
