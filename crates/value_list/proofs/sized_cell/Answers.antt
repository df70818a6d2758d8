-- A first byte below 128 is the whole number; else the number is read. Assumes nothing.
use Rattle.row_spec.specs.Value.{sized_of}
use Rattle.row_laws.proofs.Varints.{one-group}
use native.Mathlib.Omega.{arith}
use Rattle.value_list.proofs.Stored.{number-fault-holds}
use Rattle.value_list.proofs.sized_cell.Goals as goal

pub returns-then-b-lt128 : goal.returns-then-b-lt128
returns-then-b-lt128 c =
    λ least. rw (
      one-group c.args.s.now c.args.at c.if-at-s.true (omega (arith, c.wide-b.ensures.0)),
      ← c.wide-b.ensures.0,
    ) (c.place_cell.ensures least)

pub returns-in-Ok : goal.returns-in-Ok
unfolding sized_of
returns-in-Ok c = λ least. rw (← c.varint.ensures, c.in-Ok.is) (c.place_cell-in-Ok.ensures least)

pub returns-in-Err : goal.returns-in-Err
unfolding sized_of
returns-in-Err c = λ least. rw (← c.varint.ensures, c.in-Err.is) (number-fault-holds _ _ _)
