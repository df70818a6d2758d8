-- By what the precision was read as, then its bounds; the scale is a number up to the precision. Assumes nothing.
use mathlib.Core.Path.{sym, ◌∙◌}
use borrow.Author.Tests.{le-leb, lt-leb}
use Rattle.row_spec.specs.Schema.{decimal}
use Rattle.row_laws.proofs.Varints.{number-some, number-none}
use Rattle.schema.proofs.parse.decimal_type.Goals as goal

pub returns-in_err-n : goal.returns-in_err-n
unfolding decimal
returns-in_err-n c = rw (c.from_residual.ensures, ← c.varint.ensures) (number-none _ _ _ c.in_err-n.ensures.value)

pub returns-then-precision-lt1 : goal.returns-then-precision-lt1
unfolding decimal
returns-then-precision-lt1 c =
    rw (sym c.varint.ensures ∙ number-some _ _ c.in_ok-n.ensures.value, lt-leb 1 _ c.if-precision-lt1.true)

pub returns-then-precision-gt38 : goal.returns-then-precision-gt38
unfolding decimal
returns-then-precision-gt38 c =
    rw (
      sym c.varint.ensures ∙ number-some _ _ c.in_ok-n.ensures.value,
      le-leb 1 _ c.if-precision-lt1.false,
      lt-leb _ 38 c.if-precision-gt38.true,
    )

pub returns : goal.returns
unfolding decimal
returns c =
    rw (
      sym c.varint.ensures ∙ number-some _ _ c.in_ok-n.ensures.value,
      le-leb 1 _ c.if-precision-lt1.false,
      le-leb _ 38 c.if-precision-gt38.false,
    )
    c.numbered_type.ensures
