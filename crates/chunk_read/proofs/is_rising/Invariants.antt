-- Rest invariant: what is left of the offsets, from the last value on, rises exactly if the whole does.
-- Assumes nothing.
use mathlib.Core.Path.{◌≡◌}
use lib.ListN.{drop}
use Rattle.common.specs.Lists.{rising}
use Rattle.chunk_read.proofs.is_rising.Given as goal

abbrev pub invariant-loop-x : goal.invariant-loop-x
invariant-loop-x l = rising l.n l.low (drop l.x-index l.offsets) ≡ rising l.n 0 l.offsets
