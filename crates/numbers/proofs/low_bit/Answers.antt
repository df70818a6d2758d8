-- The shift and the remainder are the definition. Assumes nothing.
use Rattle.common.specs.Bytes.{low_bit}
use native.Mathlib.Omega.{arith}
use Rattle.numbers.proofs.low_bit.Goals as goal

pub overflow_shr-result : goal.overflow_shr-result
overflow_shr-result c = omega (arith, c.shift.ensures)

pub returns : goal.returns
unfolding low_bit
returns c = rw c.shift.ensures
