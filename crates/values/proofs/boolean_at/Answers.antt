-- By the tests: room, then 0 or 1. Assumes nothing.
use borrow.Author.Tests.{le-leb, lt-leb, leb-true}
use Rattle.row_spec.specs.Value.{boolean_at, room}
use mathlib.Core.Path.{sym, ◌∙◌}
use Prim.Native.Nat.{◌+◌}
use native.Mathlib.Omega.{arith}
use lib.ListN.{length}
use Rattle.values.proofs.boolean_at.Goals as goal

pub returns-then-not-has : goal.returns-then-not-has
unfolding boolean_at room
returns-then-not-has c = rw (sym c.has.ensures ∙ c.if-not-has.true)

pub bounds-s-at : goal.bounds-s-at
bounds-s-at c =
    omega (
      arith,
      leb-true (c.args.at + 1) (length c.args.s.now)
          (sym c.has.ensures ∙ c.if-not-has.false),
    )

pub returns-then-b-gt1 : goal.returns-then-b-gt1
unfolding boolean_at room
returns-then-b-gt1 c =
    rw (sym c.has.ensures ∙ c.if-not-has.false, lt-leb _ 1 c.if-b-gt1.true)

pub overflow_add-result : goal.overflow_add-result
overflow_add-result c =
    omega (
      arith,
      leb-true (c.args.at + 1) (length c.args.s.now)
          (sym c.has.ensures ∙ c.if-not-has.false),
    )

pub returns : goal.returns
unfolding boolean_at room
returns c =
    rw (sym c.has.ensures ∙ c.if-not-has.false, le-leb _ 1 c.if-b-gt1.false)
