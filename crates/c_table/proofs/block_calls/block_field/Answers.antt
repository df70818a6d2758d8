-- The answer is the definition's, and set_field hands it on. Assumes nothing.
use Rattle.c_table.proofs.Answers.{handed-on}
use Rattle.c_table.proofs.block_calls.block_field.Goals as goal

pub returns : goal.returns
returns c =
    handed-on c.field-answer.ensures c.set_field.ensures
