-- The answer is the definition's, and set_count hands it on. Assumes nothing.
use Rattle.c_table.proofs.Answers.{handed-on}
use Rattle.c_table.proofs.schema_calls.schema_check.Goals as goal

pub returns : goal.returns
returns c = handed-on c.check.ensures c.set_count.ensures
