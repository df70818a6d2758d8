-- The answer is the outcome: a refusal sets nothing, a count is written. Assumes nothing.
use mathlib.Core.Path.{refl, sym}
use Rattle.common.proofs.Calls.{refused-call, found-call}
use Rattle.c_table.proofs.counts.set_count.Goals as goal

pub returns-in-Err : goal.returns-in-Err
returns-in-Err c = rw (c.in-Err.is, c.into.ensures) (refused-call _ refl)

pub returns-in-Ok : goal.returns-in-Ok
returns-in-Ok c = rw c.in-Ok.is (found-call _ _ refl refl)
