-- By what the length was read as, then room, then the least length. Assumes nothing.
use Rattle.std.proofs.lemmas.Result.{err_from_is_err_and}
use mathlib.Core.Path.{sym, ◌∙◌}
use borrow.Author.Tests.{le-leb, lt-leb, leb-true}
use Prim.Native.Nat.{◌+◌}
use native.Mathlib.Omega.{arith}
use lib.ListN.{length}
use Rattle.row_spec.specs.Value.{stored_at, sized_of, room}
use Rattle.values.proofs.Rooms.{fault}
use Rattle.values.proofs.sized_at.Goals as goal

pub returns-in_err-length : goal.returns-in_err-length
unfolding stored_at sized_of
returns-in_err-length c =
    let p = err_from_is_err_and c.from_residual.result c.from_residual.ensures.1 in
    rw (p.1, p.2, ← c.in_err-length.ensures) (fault c.in_err-length.field-0.0 _)

pub returns-then-not-has : goal.returns-then-not-has
unfolding stored_at sized_of room
returns-then-not-has c = rw (← c.in_ok-length.ensures, sym c.has.ensures ∙ c.if-not-has.true)

pub returns-then-length-least : goal.returns-then-length-least
unfolding stored_at sized_of room
returns-then-length-least c =
    rw (← c.in_ok-length.ensures, sym c.has.ensures ∙ c.if-not-has.false, lt-leb _ _ c.if-length-least.true)

pub overflow_add-result : goal.overflow_add-result
overflow_add-result c =
    omega (
      arith,
      leb-true (c.in_ok-length.length.next + c.in_ok-length.length.number) (length c.args.s.now)
          (sym c.has.ensures ∙ c.if-not-has.false),
    )

pub returns : goal.returns
unfolding stored_at sized_of room
returns c =
    rw (← c.in_ok-length.ensures, sym c.has.ensures ∙ c.if-not-has.false, le-leb _ _ c.if-length-least.false)
