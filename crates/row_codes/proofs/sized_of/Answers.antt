-- By room, then the least length. Assumes nothing.
use borrow.Author.Tests.{le-leb, lt-leb, leb-true}
use Rattle.row_codes.specs.Codes.{sized_end}
use mathlib.Core.Path.{sym, ◌∙◌}
use Prim.Native.Nat.{◌+◌}
use native.Mathlib.Omega.{arith}
use lib.ListN.{length}
use Rattle.row_codes.proofs.sized_of.Goals as goal

pub overflow_add-result : goal.overflow_add-result
overflow_add-result c =
    omega (arith, leb-true (c.args.next + c.args.n) (length c.args.s.now) (sym c.has.ensures ∙ c.if-has.true))

pub returns-then-least-len : goal.returns-then-least-len
unfolding sized_end
returns-then-least-len c = rw (sym c.has.ensures ∙ c.if-has.true, le-leb _ _ c.if-least-len.true)

pub returns-then-has : goal.returns-then-has
unfolding sized_end
returns-then-has c = rw (sym c.has.ensures ∙ c.if-has.true, lt-leb _ _ c.if-least-len.false)

pub returns : goal.returns
unfolding sized_end
returns c = rw (sym c.has.ensures ∙ c.if-has.false)
