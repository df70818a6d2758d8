-- After j turns the first j exceptions are added, and no sum is over 63.
-- Assumes nothing.
use Prim.Native.Nat.{◌-◌}
use Rattle.chunk_read.proofs.Patching.{Patching}
use Rattle.chunk_read.proofs.patch.Given as goal

abbrev pub invariant-loop-j : goal.invariant-loop-j
invariant-loop-j l = Patching l.s l.h l.n l.k l.initial.out l.out l.j

abbrev pub decreases-loop-j : goal.decreases-loop-j
decreases-loop-j l = l.h.e - l.j
