-- By the null bit, then a null by its column. Assumes nothing.
use borrow.Author.Tests.{eq-eqb, ne_eqb}
use Rattle.row_spec.specs.Block.{field_at}
use Rattle.values.proofs.field_at.Goals as goal

pub returns-then-low_bit-eq1 : goal.returns-then-low_bit-eq1
unfolding field_at
returns-then-low_bit-eq1 c = rw (← c.low_bit.ensures, eq-eqb _ 1 c.if-low_bit-eq1.true) c.null_at.ensures

pub returns : goal.returns
unfolding field_at
returns c = rw (← c.low_bit.ensures, ne_eqb _ 1 c.if-low_bit-eq1.false) c.value_at.ensures
