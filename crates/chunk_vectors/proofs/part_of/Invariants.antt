-- After k turns the sum is what the first k exceptions add.
use Rattle.std.proofs.Common.{◌-◌}
use Rattle.chunk_vectors.proofs.Parting.{Parting}
use Rattle.chunk_vectors.proofs.part_of.Given as goal

abbrev pub invariant-loop-k : goal.invariant-loop-k
invariant-loop-k l = Parting l.s l.h l.i l.sum l.k

abbrev pub decreases-loop-k : goal.decreases-loop-k
decreases-loop-k l = l.h.e - l.k
