-- By the test for room. Assumes nothing.
use mathlib.Core.Path.{sym, ◌∙◌}
use Rattle.row_spec.specs.Value.{room}
use Rattle.values.proofs.word_read.Goals as goal

pub returns-then-has-clause-word : goal.returns-then-has-clause-word
unfolding room
returns-then-has-clause-word c = rw (sym c.has.ensures ∙ c.if-has.true, c.word.ensures.0)

pub returns-clause-word : goal.returns-clause-word
unfolding room
returns-clause-word c = rw (sym c.has.ensures ∙ c.if-has.false)
