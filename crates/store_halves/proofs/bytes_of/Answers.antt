-- A half lies within the buffer.
-- Assumes nothing.
use Rattle.store_halves.proofs.Parts.{in-buf, buf-is}
use native.Mathlib.Omega.{arith}
use borrow.Author.Rules.{rules}
use Rattle.store_halves.proofs.bytes_of.Goals as goal

pub overflow_mul-s : goal.overflow_mul-s
overflow_mul-s c = omega (arith, in-buf c.args.buf.now c.args.o c.requires)

pub overflow_add-result : goal.overflow_add-result
overflow_add-result c = omega (arith, in-buf c.args.buf.now c.args.o c.requires)

pub slice_bounds-result-end : goal.slice_bounds-result-end
slice_bounds-result-end c = omega (arith, in-buf c.args.buf.now c.args.o c.requires)

pub returns : goal.returns
returns c = buf-is c.args.buf.now c.args.o
