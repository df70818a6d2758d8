-- The count in the set.
-- Assumes nothing.
use Rattle.std.proofs.Common.{rules}
use Rattle.bitmap_spec.specs.Ask.{rank, below}
use Rattle.judge.proofs.Asking.{asked}
use Rattle.bitmap_read.proofs.rank.Goals as goal

pub returns : goal.returns
unfolding rank
returns c = asked _ (below c.args.position) _ _ (λ set a h. search rules) c.ask.ensures
