-- The set's cardinality is the number of its members.
-- Assumes nothing.
use lib.ListN.{length}
use Rattle.std.proofs.Common.{rules}
use Rattle.bitmap_spec.specs.Ask.{check}
use Rattle.judge.proofs.Asking.{asked}
use Rattle.bitmap_read.proofs.check.Goals as goal

pub returns : goal.returns
unfolding check
returns c = asked _ length _ _ (λ set a h. let k = set.counts in search rules) c.ask.ensures
