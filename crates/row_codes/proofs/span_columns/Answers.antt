-- A span, or one column. Assumes nothing.
use borrow.Author.Tests.{eq-eqb, ne_eqb}
use Rattle.row_codes.specs.Codes.{spanned}
use Rattle.row_codes.proofs.span_columns.Goals as goal

pub returns-then-v-eq0 : goal.returns-then-v-eq0
unfolding spanned
returns-then-v-eq0 c = rw (eq-eqb c.args.v 0 c.if-v-eq0.true)

pub returns : goal.returns
unfolding spanned
returns c = rw (ne_eqb c.args.v 0 c.if-v-eq0.false)
