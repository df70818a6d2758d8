-- Three stores, one behind the other.
-- Assumes nothing.
use lib.ListN.{length-set}
use Rattle.chunk_write.proofs.Laying.{three}
use mathlib.Core.Path.{refl}
use Prim.Native.Nat.{◌-◌}
use native.Mathlib.Omega.{arith}
use Rattle.chunk_write.proofs.put3.Goals as goal

pub bounds-out-at-2 : goal.bounds-out-at-2
bounds-out-at-2 c = simp length-set (omega arith)

pub bounds-out-at-3 : goal.bounds-out-at-3
bounds-out-at-3 c = simp length-set (omega arith)

pub returns : goal.returns
returns c = (refl, three c.args.out.now c.args.at c.args.x c.args.y c.args.z (omega arith))
