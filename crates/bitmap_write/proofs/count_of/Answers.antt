-- The last position of a rising list is its largest.
-- Assumes nothing.
use Rattle.common.proofs.Lists.{rising-range}
use Rattle.bitmap_write.proofs.Runs.{count_none, count-last}
use Prim.Native.Nat.{◌-◌}
use native.Mathlib.Omega.{arith}
use lib.ListN.{length}
use Rattle.bitmap_write.proofs.count_of.Goals as goal

pub returns-then-n-eq0 : goal.returns-then-n-eq0
returns-then-n-eq0 c = (count_none c.args.ps.now c.if-n-eq0.true, omega arith)

pub overflow_cast-result : goal.overflow_cast-result
overflow_cast-result c = let r = rising-range 2097152 0 c.args.ps.now (length c.args.ps.now - 1) c.requires (omega (arith, c.if-n-eq0.false)) in omega (arith, r.1)

pub overflow_add-result : goal.overflow_add-result
overflow_add-result c = let r = rising-range 2097152 0 c.args.ps.now (length c.args.ps.now - 1) c.requires (omega (arith, c.if-n-eq0.false)) in omega (arith, r.1)

pub returns : goal.returns
returns c = let r = rising-range 2097152 0 c.args.ps.now (length c.args.ps.now - 1) c.requires (omega (arith, c.if-n-eq0.false)) in (count-last c.args.ps.now c.requires (omega (arith, c.if-n-eq0.false)), omega (arith, r.1))
