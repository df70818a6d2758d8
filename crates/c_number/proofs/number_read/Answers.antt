-- What was read ends within five bytes; its plain numbers are the outputs. Assumes nothing.
use mathlib.Core.Path.{refl, ap, ◌∙◌}
use Rattle.row_spec.specs.Answer.{number_shown}
use Rattle.row_laws.proofs.Varints.{varint-end}
use Rattle.c_number.proofs.number_read.Goals as goal

pub show-n-requires : goal.show-n-requires
show-n-requires c = rw c.read.ensures (varint-end _ 0)

pub returns : goal.returns
returns c = (refl, c.show-n.ensures ∙ ap number_shown c.read.ensures)
