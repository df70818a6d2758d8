-- The invariant: the test of what is left, from lo on, is the test of the list.
-- Assumes nothing.
use lib.ListN.{drop}
use mathlib.Core.Path.{◌≡◌}
use Rattle.common.specs.Lists.{rising}
use Rattle.bitmap_write.proofs.rises.Given as goal

abbrev pub invariant-loop-x : goal.invariant-loop-x
invariant-loop-x l = rising 2097152 l.lo (drop l.x-index l.ps) ≡ rising 2097152 0 l.ps
