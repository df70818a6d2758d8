-- Room, then the nanoseconds. Assumes nothing.
use borrow.Author.Tests.{leb-true, le-leb, lt-leb}
use Rattle.row_codes.specs.Codes.{time_end, nanos_end}
use mathlib.Core.Path.{sym, ◌∙◌}
use Prim.Native.Nat.{◌+◌}
use native.Mathlib.Omega.{arith}
use lib.ListN.{length}
use Rattle.row_laws.proofs.Varints.{number-some, number-none}
use Rattle.row_codes.proofs.time_end.Goals as goal

pub returns-then-not-has : goal.returns-then-not-has
unfolding time_end
returns-then-not-has c = rw (sym c.has.ensures ∙ c.if-not-has.true)

pub overflow_add-at : goal.overflow_add-at
overflow_add-at c =
    omega (arith, leb-true (c.args.at + 8) (length c.args.s.now) (sym c.has.ensures ∙ c.if-not-has.false))

pub returns-in_err-nanos : goal.returns-in_err-nanos
unfolding time_end nanos_end
returns-in_err-nanos c =
    rw (sym c.has.ensures ∙ c.if-not-has.false, c.from_residual.ensures, ← c.varint.ensures)
    (number-none _ _ _ c.in_err-nanos.ensures.value)

pub returns-then-nanos-le999999 : goal.returns-then-nanos-le999999
unfolding time_end nanos_end
returns-then-nanos-le999999 c =
    rw (
      sym c.has.ensures ∙ c.if-not-has.false,
      sym c.varint.ensures ∙ number-some _ _ c.in_ok-nanos.ensures.value,
      le-leb _ 999999 c.if-nanos-le999999.true,
    )

pub returns : goal.returns
unfolding time_end nanos_end
returns c =
    rw (
      sym c.has.ensures ∙ c.if-not-has.false,
      sym c.varint.ensures ∙ number-some _ _ c.in_ok-nanos.ensures.value,
      lt-leb _ 999999 c.if-nanos-le999999.false,
    )
