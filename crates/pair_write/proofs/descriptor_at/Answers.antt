-- What stands at k, or 0.
-- Assumes nothing.
use Rattle.std.proofs.Common.{arith}
use Rattle.std.proofs.lemmas.Grind.{common_steps}
use Rattle.pair_write.specs.Sides.{desc_at}
use Rattle.pair_write.proofs.descriptor_at.Goals as goal

pub returns : goal.returns
unfolding desc_at
returns c = grind (arith, common_steps)
