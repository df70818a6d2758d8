-- By the null bit, then a null by its column. Assumes nothing.
use Prim.Native.Nat.{◌%◌}
use borrow.Author.Tests.{eq-eqb, ne_eqb}
use Rattle.row_codes.specs.Codes.{code_end}
use Rattle.row_codes.proofs.code_end.Goals as goal

pub returns-then-c-eq1 : goal.returns-then-c-eq1
unfolding code_end
returns-then-c-eq1 c =
    rw (eq-eqb c.args.null 1 c.if-null-eq1.true, eq-eqb (c.args.c % 2) 1 c.if-c-eq1.true)

pub returns-then-null-eq1 : goal.returns-then-null-eq1
unfolding code_end
returns-then-null-eq1 c =
    rw (eq-eqb c.args.null 1 c.if-null-eq1.true, ne_eqb (c.args.c % 2) 1 c.if-c-eq1.false)

pub returns : goal.returns
unfolding code_end
returns c =
    rw (ne_eqb c.args.null 1 c.if-null-eq1.false) c.kind_end.ensures
