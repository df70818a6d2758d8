-- One comparison tells a NaN; any other pattern may be read as a float. Assumes nothing.
use lib.Ieee.{binary32}
use Rattle.row_spec.specs.declared.Field.TheVariants.{F32, NanF32}
use Rattle.row_laws.proofs.Patterns.{bad-pattern, good-pattern, may_read}
use Rattle.numbers.proofs.float32.Goals as goal

pub returns-then-n-gt2139095040 : goal.returns-then-n-gt2139095040
returns-then-n-gt2139095040 c = bad-pattern binary32 c.args.n NanF32 F32 c.if-n-gt2139095040.true

pub float_from_bits-result : goal.float_from_bits-result
float_from_bits-result c = may_read binary32 c.args.n c.if-n-gt2139095040.false

pub returns : goal.returns
returns c = good-pattern binary32 c.args.n NanF32 F32 c.if-n-gt2139095040.false
