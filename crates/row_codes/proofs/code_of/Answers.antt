-- Twice the kind, which is small, and the mark. Assumes nothing.
use Rattle.row_codes.proofs.Steps.{kind-small}
use native.Mathlib.Omega.{arith}
use Rattle.row_codes.proofs.code_of.Goals as goal

pub overflow_mul-result : goal.overflow_mul-result
overflow_mul-result c = omega (arith, c.kind_of-k.ensures, kind-small c.args.c.ty)

pub overflow_add-result : goal.overflow_add-result
overflow_add-result c = omega (arith, c.kind_of-k.ensures, kind-small c.args.c.ty)

pub returns-then-c : goal.returns-then-c
returns-then-c c = rw (← c.kind_of-k.ensures, c.if-c.true)

pub overflow_mul-result-2 : goal.overflow_mul-result-2
overflow_mul-result-2 c = omega (arith, c.kind_of-k.ensures, kind-small c.args.c.ty)

pub returns : goal.returns
returns c = rw (← c.kind_of-k.ensures, c.if-c.false) (omega arith)
