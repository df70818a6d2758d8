-- The second width is 0 without exceptions, else what the first leaves of the largest.
-- Assumes nothing.
use Rattle.chunk_write.proofs.Laying.{two-some, two_none}
use Prim.Native.Nat.{◌-◌}
use native.Mathlib.Omega.{arith}
use Rattle.chunk_write.proofs.second_of.Goals as goal

pub returns-then-e-eq0 : goal.returns-then-e-eq0
returns-then-e-eq0 c = (two_none c.args.w c.args.b c.args.e c.if-e-eq0.true, omega arith)

pub returns : goal.returns
returns c = (two-some c.args.w c.args.b c.args.e c.if-e-eq0.false, omega arith)
