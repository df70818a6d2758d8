-- Rest invariant: the walk over what is left, with as many members as bytes passed, is the whole walk.
-- Assumes nothing.
use mathlib.Core.Path.{sym, ◌∙◌}
use native.Mathlib.Omega.{arith}
use Rattle.judge.proofs.Walking.{walk_end}
use Rattle.judge.proofs.Descents.{sum_bound}
use Rattle.judge.proofs.walk_thin.Goals as goal

pub overflow_cast-result : goal.overflow_cast-result
overflow_cast-result c =
    omega (arith, c.requires.3, c.requires.0, c.loop-i.invariant.2, sum_bound c.args.d.now c.args.n c.requires.1)

pub returns : goal.returns
returns c =
    sym
    (walk_end c.args.d.now c.args.n c.loop-i.i c.requires.1 c.args.s.now c.loop-i.at _
    c.loop-i-test.false)
    ∙ c.loop-i.invariant.3
