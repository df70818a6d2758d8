-- The header, then the chunks behind it.
-- Assumes nothing.
use Rattle.form_write.proofs.Whole.{head-chunks}
use Rattle.bitmap_laws.proofs.Output.{length-written}
use Rattle.bitmap_laws.proofs.Round.{header, six-is}
use mathlib.Core.Path.{ap, ◌∙◌}
use native.Mathlib.Omega.{arith}
use lib.ListN.{length}
use Rattle.form_write.proofs.put_head.Goals as goal

pub put_chunks-t-requires : goal.put_chunks-t-requires
put_chunks-t-requires c =
    let e = ap length c.put_header.ensures.1 ∙ length-written c.args.out.now
    (header c.args.card (length c.args.ds.now)) 0
    (omega (arith, six-is c.args.card (length c.args.ds.now), c.requires.2)) in
    (c.requires.0, c.requires.1, rw e c.requires.2)

pub overflow_add-result : goal.overflow_add-result
overflow_add-result c =
    omega (arith, c.put_chunks-t.ensures.0, c.requires.2)

pub returns : goal.returns
returns c = (
  omega (arith, c.put_chunks-t.ensures.0),
  head-chunks c.args.out.now _ _
      c.args.ds.now c.args.card
      c.requires.2 c.put_header.ensures.1
      c.put_chunks-t.ensures.1,
)
