-- One comparison tells a NaN; any other pattern may be read as a float. Assumes nothing.
use lib.Ieee.{binary64}
use Rattle.row_spec.specs.declared.Field.TheVariants.{F64, NanF64}
use Rattle.row_laws.proofs.Patterns.{bad-pattern, good-pattern, may_read}
use Rattle.numbers.proofs.float64.Goals as goal

pub returns-then-n-gt9218868437227405312 : goal.returns-then-n-gt9218868437227405312
returns-then-n-gt9218868437227405312 c = bad-pattern binary64 c.args.n NanF64 F64 c.if-n-gt9218868437227405312.true

pub float_from_bits-result : goal.float_from_bits-result
float_from_bits-result c = may_read binary64 c.args.n c.if-n-gt9218868437227405312.false

pub returns : goal.returns
returns c = good-pattern binary64 c.args.n NanF64 F64 c.if-n-gt9218868437227405312.false
