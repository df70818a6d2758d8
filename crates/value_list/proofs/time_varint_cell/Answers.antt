-- With room for the count, by the nanoseconds behind it. Assumes nothing.
use borrow.Author.Tests.{leb-true}
use Rattle.row_spec.specs.Value.{stored_at, nanos_of}
use Rattle.value_list.proofs.Stored.{room-holds, not_there, nanos-holds, number-fault-holds}
use mathlib.Core.Path.{sym, ◌∙◌}
use Prim.Native.Nat.{◌+◌}
use native.Mathlib.Omega.{arith}
use lib.ListN.{length}
use borrow.Author.Rules.{rules}
use Rattle.value_list.proofs.time_varint_cell.Goals as goal

pub returns-then-not-has : goal.returns-then-not-has
unfolding stored_at
returns-then-not-has c =
    room-holds _ c.args.s.now c.args.at 8 _ (λ e. not_there c.has.ensures c.if-not-has.true e)

pub overflow_add-at : goal.overflow_add-at
overflow_add-at c =
    omega (arith, leb-true (c.args.at + 8) (length c.args.s.now) (sym c.has.ensures ∙ c.if-not-has.false))

pub word-requires : goal.word-requires
word-requires c =
    (leb-true (c.args.at + 8) (length c.args.s.now) (sym c.has.ensures ∙ c.if-not-has.false), search rules)

pub returns-in-Ok : goal.returns-in-Ok
unfolding stored_at
returns-in-Ok c =
    room-holds _ c.args.s.now c.args.at 8 _ (λ e.
    rw (← c.word.ensures.0, ← c.varint.ensures, c.in-Ok.is)
    (nanos-holds _ _ _ _ _ (search rules) c.cell_of-in-Ok.ensures))

pub returns-in-Err : goal.returns-in-Err
unfolding stored_at nanos_of
returns-in-Err c =
    room-holds _ c.args.s.now c.args.at 8 _ (λ e. rw (← c.varint.ensures, c.in-Err.is) (number-fault-holds _ _ _))
