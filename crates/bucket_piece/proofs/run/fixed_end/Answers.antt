-- None, one product, or too few bytes. Assumes nothing.
use borrow.Author.Tests.{eq-eqb, ne_eqb}
use Rattle.common.specs.Outcome.{need}
use Rattle.bucket_piece.specs.Stored.{fixed}
use mathlib.Core.Path.{sym, ◌∙◌}
use Rattle.bucket_piece.proofs.run.fixed_end.Goals as goal

pub returns-then-n-eq0 : goal.returns-then-n-eq0
unfolding fixed
returns-then-n-eq0 c = rw (eq-eqb c.args.n 0 c.if-n-eq0.true)

pub returns-then-has : goal.returns-then-has
unfolding fixed need
returns-then-has c =
    rw (ne_eqb c.args.n 0 c.if-n-eq0.false, sym c.has.ensures ∙ c.if-has.true)

pub returns : goal.returns
unfolding fixed need
returns c =
    rw (ne_eqb c.args.n 0 c.if-n-eq0.false, sym c.has.ensures ∙ c.if-has.false)
