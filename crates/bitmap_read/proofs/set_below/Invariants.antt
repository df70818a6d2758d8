-- The members counted so far and those below the position in the containers that are left are all below it.
-- Assumes nothing.
use lib.ListN.{length}
use Rattle.bitmap_read.proofs.Below.{Counting}
use Rattle.bitmap_read.proofs.set_below.Given as goal

abbrev pub invariant-loop-i : goal.invariant-loop-i
invariant-loop-i l =
    Counting l.set.bytes.now l.set.descriptors.now (length l.set.descriptors.now) l.set.start l.position l.at l.below l.i
