-- With room for both, the count and four bytes of nanoseconds. Assumes nothing.
use borrow.Author.Tests.{leb-true}
use Rattle.row_spec.specs.Value.{stored_at}
use Rattle.value_list.proofs.Stored.{room-holds, not_there, nanos-holds}
use mathlib.Core.Path.{sym, ◌∙◌}
use Prim.Native.Nat.{◌+◌}
use native.Mathlib.Omega.{arith}
use lib.ListN.{length}
use borrow.Author.Rules.{rules}
use Rattle.value_list.proofs.time_fixed_cell.Goals as goal

pub word-count-requires : goal.word-count-requires
word-count-requires c = (
  omega (arith, leb-true (c.args.at + 12) (length c.args.s.now) (sym c.has.ensures ∙ c.if-has.true)),
  search rules,
)

pub overflow_add-at : goal.overflow_add-at
overflow_add-at c =
    omega (arith, leb-true (c.args.at + 12) (length c.args.s.now) (sym c.has.ensures ∙ c.if-has.true))

pub word-requires : goal.word-requires
word-requires c = (
  omega (arith, leb-true (c.args.at + 12) (length c.args.s.now) (sym c.has.ensures ∙ c.if-has.true)),
  search rules,
)

pub returns-then-has : goal.returns-then-has
unfolding stored_at
returns-then-has c =
    room-holds _ c.args.s.now c.args.at 12 _ (λ e.
    rw (← c.word-count.ensures.0, ← c.word.ensures.0)
    (nanos-holds _ _ _ _ _ (search rules) c.cell_of.ensures))

pub returns : goal.returns
unfolding stored_at
returns c =
    room-holds _ c.args.s.now c.args.at 12 _
    (λ e. not_there c.has.ensures c.if-has.false e)
