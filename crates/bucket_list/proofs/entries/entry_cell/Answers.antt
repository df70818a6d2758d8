-- Null, or the three numbers from 3 * k on. Assumes nothing.
use Rattle.row_spec.specs.Page.{listed}
use Rattle.value_list.specs.Cell.{numbers_in}
use mathlib.Core.Path.{ap, ◌∙◌}
use Rattle.bucket_list.proofs.entries.entry_cell.Goals as goal

pub returns-then-null : goal.returns-then-null
unfolding listed
returns-then-null c = ap numbers_in c.cell_of.ensures ∙ rw c.if-null.true
