-- The answer is the definition's: a refusal sets nothing, else each output is one of its numbers. Assumes nothing.
use Rattle.common.proofs.Calls.{refused-call, found-call}
use Rattle.c_table.specs.Outputs.{column_shown}
use Rattle.c_table.proofs.Bools.{bool-byte}
use mathlib.Core.Path.{sym, ap, ◌∙◌}
use Rattle.c_table.proofs.schema_calls.schema_column.Goals as goal

pub returns-in-Err : goal.returns-in-Err
returns-in-Err c = rw c.into.ensures (refused-call _ c.in-Err.ensures)

pub returns-in-Ok : goal.returns-in-Ok
unfolding column_shown
returns-in-Ok c = found-call _ _ c.in-Ok.ensures (rw (c.show_type-t.ensures, bool-byte c.in-Ok.c.nullable))
