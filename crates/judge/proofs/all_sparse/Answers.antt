-- The or of the descriptors passed is below 32 only if each is.
-- Assumes nothing.
use native.Mathlib.Omega.{arith}
use Rattle.judge.proofs.Descents.{sparse-more}
use Rattle.judge.proofs.all_sparse.Goals as goal

pub loop-i-preserved : goal.loop-i-preserved
loop-i-preserved c =
    (omega arith, λ l. sparse-more c.args.d.now c.loop-i.i c.loop-i.any c.loop-i.invariant.1 l)
