-- Membership in the set.
-- Assumes nothing.
use Rattle.common.specs.Lists.{mem}
use Rattle.std.proofs.Common.{rules}
use Rattle.bitmap_spec.specs.Ask.{probe}
use Rattle.judge.proofs.Asking.{asked}
use Rattle.bitmap_read.proofs.probe.Goals as goal

pub returns : goal.returns
unfolding probe
returns c = asked _ (mem c.args.position) _ _ (λ set a h. search rules) c.ask.ensures
