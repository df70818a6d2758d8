-- A length of one byte is the definition's; any other goes by the varint. Assumes nothing.
use mathlib.Core.Path.{sym, ◌∙◌}
use native.Mathlib.Omega.{arith}
use Rattle.row_laws.proofs.Varints.{one-group, number-some, number-none}
use Rattle.row_codes.specs.Codes.{sized_end}
use Rattle.row_codes.proofs.sized_end.Goals as goal

pub returns-then-b-lt128 : goal.returns-then-b-lt128
returns-then-b-lt128 c =
    rw (
      one-group c.args.s.now c.args.at c.if-at-s.true
          (omega (arith, c.wide-b.ensures.0)),
      ← c.wide-b.ensures.0,
    )
    c.sized_of.ensures

pub returns-in_err-length : goal.returns-in_err-length
unfolding sized_end
returns-in_err-length c =
    rw (c.from_residual.ensures, ← c.varint.ensures) (number-none _ _ _ c.in_err-length.ensures.value)

pub returns : goal.returns
unfolding sized_end
returns c = rw (sym c.varint.ensures ∙ number-some _ _ c.in_ok-length.ensures.value) c.sized_of-2.ensures
