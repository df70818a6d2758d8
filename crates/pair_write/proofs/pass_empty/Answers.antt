-- The invariant: the containers from k up to i are empty in both.
-- Assumes nothing.
use native.Mathlib.Omega.{arith}
use Rattle.pair_write.proofs.Skipping.{empty-more}
use Rattle.pair_write.proofs.pass_empty.Goals as goal

pub loop-i-init : goal.loop-i-init
loop-i-init c = (omega arith, c.requires.0, λ j a b. absurd (omega arith))

pub overflow_sub-n : goal.overflow_sub-n
overflow_sub-n c = c.loop-i.invariant.1

pub returns-then-t-lt8 : goal.returns-then-t-lt8
returns-then-t-lt8 c = (
  omega (arith, c.loop-i.invariant.0),
  omega (arith, c.loop-i-test.true, c.if-t-lt8.true),
  empty-more _ _ _ c.loop-i.i c.min-t.result c.empty_run.result c.empty_run-in-loop-i.result c.loop-i.invariant.2
      c.empty_run.ensures.1 c.empty_run-in-loop-i.ensures.1 (omega (arith, c.min-t.ensures))
      (omega (arith, c.min-t.ensures)),
)

pub loop-i-smaller : goal.loop-i-smaller
loop-i-smaller c =
    omega (arith, c.loop-i-test.true)

pub loop-i-preserved : goal.loop-i-preserved
loop-i-preserved c = (
  omega (arith, c.loop-i.invariant.0),
  omega (arith, c.loop-i-test.true),
  empty-more _ _ _ c.loop-i.i 8 c.empty_run.result c.empty_run-in-loop-i.result c.loop-i.invariant.2
      c.empty_run.ensures.1
      c.empty_run-in-loop-i.ensures.1 (omega (arith, c.min-t.ensures, c.if-t-lt8.false))
      (omega (arith, c.min-t.ensures, c.if-t-lt8.false)),
)

pub returns : goal.returns
returns c = c.loop-i.invariant
