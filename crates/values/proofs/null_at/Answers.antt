-- By the mark of the column. Assumes nothing.
use Rattle.values.proofs.null_at.Goals as goal

pub returns-then-nullable : goal.returns-then-nullable
returns-then-nullable c = rw c.if-nullable.true
