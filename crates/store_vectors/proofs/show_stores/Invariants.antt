-- Each store ends past its start.
use Rattle.std.proofs.Common.{length, ◌-◌}
use Rattle.store_vectors.proofs.show_stores.Given as goal

abbrev pub decreases-loop-at : goal.decreases-loop-at
decreases-loop-at g l = length l.text - l.at
