-- The invariant: the test of what is left, from lo on, is the test of the list.
-- Assumes nothing.
use mathlib.Core.Path.{◌∙◌}
use native.Mathlib.Omega.{arith}
use Rattle.bitmap_write.proofs.Runs.{rise-low, rise-high, rise-on, rise-end}
use Rattle.bitmap_write.proofs.rises.Goals as goal

pub returns-then-x-lo : goal.returns-then-x-lo
returns-then-x-lo c =
    rise-low c.loop-x.lo c.loop-x.x-index c.args.ps.now c.loop-x-test.true c.if-x-lo.true ∙ c.loop-x.invariant

pub returns-then-x-ge2097152 : goal.returns-then-x-ge2097152
returns-then-x-ge2097152 c =
    rise-high c.loop-x.lo c.loop-x.x-index c.args.ps.now c.loop-x-test.true c.if-x-lo.false c.if-x-ge2097152.true
    ∙ c.loop-x.invariant

pub overflow_add-lo : goal.overflow_add-lo
overflow_add-lo c = omega (arith, c.if-x-ge2097152.false)

pub loop-x-preserved : goal.loop-x-preserved
loop-x-preserved c =
    rise-on c.loop-x.lo c.loop-x.x-index c.args.ps.now c.loop-x-test.true c.if-x-lo.false c.if-x-ge2097152.false
    ∙ c.loop-x.invariant

pub returns : goal.returns
returns c = rise-end c.loop-x.lo c.loop-x.x-index c.args.ps.now c.loop-x-test.false ∙ c.loop-x.invariant
