-- By what the number was read as, then its bound. Assumes nothing.
use mathlib.Core.Path.{sym, ◌∙◌}
use borrow.Author.Tests.{le-leb, lt-leb}
use Rattle.row_spec.specs.Schema.{numbered}
use Rattle.row_laws.proofs.Varints.{number-some, number-none}
use Rattle.schema.proofs.parse.numbered_type.Goals as goal

pub returns-in_err-n : goal.returns-in_err-n
unfolding numbered
returns-in_err-n c = rw (c.from_residual.ensures, ← c.varint.ensures) (number-none _ _ _ c.in_err-n.ensures.value)

pub returns-then-most-n : goal.returns-then-most-n
unfolding numbered
returns-then-most-n c =
    rw (sym c.varint.ensures ∙ number-some _ _ c.in_ok-n.ensures.value, lt-leb _ _ c.if-most-n.true)

pub returns : goal.returns
unfolding numbered
returns c =
    rw (
      sym c.varint.ensures
          ∙ number-some _ _ c.in_ok-n.ensures.value,
      le-leb _ _ c.if-most-n.false,
      c.with_number.ensures,
    )
