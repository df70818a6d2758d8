-- A null is three zeros; else the value. Assumes nothing.
use Rattle.row_spec.specs.Page.{listed}
use Rattle.row_spec.specs.declared.Field.TheVariants.{Null}
use Rattle.value_list.specs.declared.Cell.{Cell}
use Rattle.value_list.specs.Cell.{numbers_in}
use Rattle.value_list.proofs.Stored.{read-holds}
use mathlib.Core.Path.{ap}
use Rattle.value_list.proofs.field_cell.Goals as goal

pub returns-then-null : goal.returns-then-null
unfolding listed
returns-then-null c =
    rw c.if-null.true (read-holds _ Null c.args.at (ap numbers_in c.cell_of.ensures)
    (ap (λ (x : Cell). x.next) c.cell_of.ensures))

pub returns : goal.returns
returns c = rw c.if-null.false c.cell_at.ensures
