-- The number stays below 10^19.
use Rattle.std.proofs.Common.{◌<◌}
use Rattle.vector_text.proofs.number.Given as goal

abbrev pub invariant-loop-d : goal.invariant-loop-d
invariant-loop-d l = l.n < 10000000000000000000
