-- The field is the definition's, and a place of an accepted block lies within it. Assumes nothing.
use Rattle.rows.proofs.Asking.{answer-within}
use Rattle.rows.proofs.part.Goals as goal

pub field-requires : goal.field-requires
field-requires c = tt

pub part-requires : goal.part-requires
part-requires c =
    answer-within c.args.schema_bytes.now c.args.block.now c.args.row c.args.column c.field.result
    c.field.ensures

pub returns : goal.returns
returns c = rw (← c.field.ensures) c.part.ensures
