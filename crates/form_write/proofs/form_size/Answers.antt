-- The parts of a form, added.
-- Assumes nothing.
use native.Mathlib.Omega.{arith}
use Rattle.form_write.proofs.form_size.Goals as goal

pub overflow_add-result : goal.overflow_add-result
overflow_add-result c = omega (arith, c.chunks_size-c.ensures.1)

pub overflow_add-result-2 : goal.overflow_add-result-2
overflow_add-result-2 c = omega (arith, c.chunks_size-c.ensures.1, c.body_size-b.ensures.1)

pub returns : goal.returns
returns c = omega (arith, c.chunks_size-c.ensures.0, c.body_size-b.ensures.0)
