-- Room, then the end. Assumes nothing.
use borrow.Author.Tests.{leb-true}
use Rattle.row_codes.specs.Codes.{fixed_end}
use mathlib.Core.Path.{sym, ◌∙◌}
use Prim.Native.Nat.{◌+◌}
use native.Mathlib.Omega.{arith}
use lib.ListN.{length}
use Rattle.row_codes.proofs.fixed_end.Goals as goal

pub overflow_add-result : goal.overflow_add-result
overflow_add-result c =
    omega (arith, leb-true (c.args.at + c.args.w) (length c.args.s.now) (sym c.has.ensures ∙ c.if-has.true))

pub returns-then-has : goal.returns-then-has
unfolding fixed_end
returns-then-has c = rw (← c.has.ensures, c.if-has.true)

pub returns : goal.returns
unfolding fixed_end
returns c = rw (← c.has.ensures, c.if-has.false)
