-- x != x tells a NaN; any other double has its own bits. Assumes nothing.
use lib.Ieee.{binary64}
use Rattle.row_laws.proofs.Patterns.{may_write, nan-bits}
use mathlib.Core.Path.{sym}
use Rattle.numbers.proofs.double_bits.Goals as goal

pub returns-then-x : goal.returns-then-x
returns-then-x c = sym (nan-bits binary64 _ c.if-x.true)

pub float_to_bits-result : goal.float_to_bits-result
float_to_bits-result c = may_write _ c.if-x.false
