-- With room, the place behind the length. Assumes nothing.
use borrow.Author.Tests.{leb-true}
use Rattle.value_list.proofs.Stored.{place-holds, not_there}
use mathlib.Core.Path.{sym, ◌∙◌}
use Prim.Native.Nat.{◌+◌}
use native.Mathlib.Omega.{arith}
use lib.ListN.{length}
use Rattle.value_list.proofs.place_cell.Goals as goal

pub overflow_add-next : goal.overflow_add-next
overflow_add-next c =
    omega (arith, leb-true (c.args.next + c.args.n) (length c.args.s.now) (sym c.has.ensures ∙ c.if-has.true))

pub returns-then-has : goal.returns-then-has
returns-then-has c = λ least. place-holds c.args.s.now least _ _ _ _ (λ e. c.cell_of.ensures)

pub returns : goal.returns
returns c = λ least. place-holds c.args.s.now least _ _ _ _ (λ e. not_there c.has.ensures c.if-has.false e)
