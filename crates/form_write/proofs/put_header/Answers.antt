-- Two groups of three bytes are the header.
-- Assumes nothing.
use Rattle.form_write.proofs.Whole.{head-parts}
use mathlib.Core.Path.{refl}
use Rattle.form_write.proofs.put_header.Goals as goal

pub returns : goal.returns
returns c = (
  refl,
  head-parts c.args.out.now _ _ c.args.card c.args.n c.requires.0 c.put3.ensures.1
      c.put3-2.ensures.1,
)
