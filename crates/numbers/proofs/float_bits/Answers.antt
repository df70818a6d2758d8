-- x != x tells a NaN; any other float has its own bits. Assumes nothing.
use lib.Ieee.{binary32}
use Rattle.row_laws.proofs.Patterns.{may_write, nan-bits}
use mathlib.Core.Path.{sym}
use Rattle.numbers.proofs.float_bits.Goals as goal

pub returns-then-x : goal.returns-then-x
returns-then-x c = sym (nan-bits binary32 _ c.if-x.true)

pub float_to_bits-x : goal.float_to_bits-x
float_to_bits-x c = may_write _ c.if-x.false
