-- By the tests, in the order of the definition; the weight is at most 128 ^ 4, so nothing wraps. Assumes nothing.
use mathlib.Core.Path.{sym}
use native.Mathlib.Omega.{arith}
use borrow.Author.Tests.{lt-ltb}
use Rattle.row_laws.proofs.Varints.{prod, last-large, last_some, last-zero}
use Rattle.numbers.proofs.last_group.Goals as goal

pub overflow_mul-n : goal.overflow_mul-n
overflow_mul-n c = omega (arith, prod 127 268435456 {m = c.args.b} {n = c.args.w} (omega arith) (omega arith))

pub overflow_add-n : goal.overflow_add-n
overflow_add-n c = omega (arith, prod 127 268435456 {m = c.args.b} {n = c.args.w} (omega arith) (omega arith))

pub returns-then-n-gt4294967295 : goal.returns-then-n-gt4294967295
returns-then-n-gt4294967295 c = sym (last-large _ _ _ _ c.if-n-gt4294967295.true)

pub returns-then-b-gt0 : goal.returns-then-b-gt0
returns-then-b-gt0 c =
    let b = c.if-b-gt0.true in rw (lt-ltb 0 c.args.b b) (sym (last_some _ _ _ _ c.if-n-gt4294967295.false b))

pub returns-else-b-gt0 : goal.returns-else-b-gt0
returns-else-b-gt0 c = sym (last-zero _ _ _ _ c.if-n-gt4294967295.false c.if-b-gt0.false)
