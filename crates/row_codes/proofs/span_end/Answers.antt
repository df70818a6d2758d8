-- A span, or one field. Assumes nothing.
use borrow.Author.Tests.{eq-eqb, ne_eqb}
use Rattle.row_codes.specs.Codes.{span_end}
use Rattle.row_codes.proofs.span_end.Goals as goal

pub returns-then-v-eq0 : goal.returns-then-v-eq0
unfolding span_end
returns-then-v-eq0 c =
    rw (eq-eqb c.args.v 0 c.if-v-eq0.true) c.code_end.ensures

pub returns : goal.returns
unfolding span_end
returns c =
    rw (ne_eqb c.args.v 0 c.if-v-eq0.false) c.fixed_end.ensures
