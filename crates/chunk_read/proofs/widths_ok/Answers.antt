-- The two tests are those of widths_ok.
-- Assumes nothing.
use borrow.Author.Tests.{lt-leb, le-leb, eq-eqb, ne_eqb}
use Rattle.bitmap_spec.specs.Judge.{widths_ok}
use Rattle.chunk_read.proofs.widths_ok.Goals as goal

pub returns-then-h-gt8 : goal.returns-then-h-gt8
unfolding widths_ok
returns-then-h-gt8 c = simp (lt-leb _ _ c.if-h-gt8.true)

pub returns-then-h-eq8 : goal.returns-then-h-eq8
unfolding widths_ok
returns-then-h-eq8 c =
    let if1 = c.if-h-gt8 in
    simp (le-leb _ _ if1.false, eq-eqb _ _ c.if-h-eq8.true)

pub returns : goal.returns
unfolding widths_ok
returns c = simp (le-leb _ _ c.if-h-gt8.false, ne_eqb _ _ c.if-h-eq8.false)
