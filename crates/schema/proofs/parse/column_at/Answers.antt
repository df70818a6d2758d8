-- Both bytes are there, the second is 0 or 1, and the type decides. Assumes nothing.
use mathlib.Core.Path.{sym, ◌∙◌}
use Prim.Native.Nat.{◌+◌}
use borrow.Author.Tests.{le-leb, lt-leb, leb-true}
use Rattle.row_spec.specs.Schema.{column_at}
use native.Mathlib.Omega.{arith}
use lib.ListN.{length}
use Rattle.schema.proofs.parse.column_at.Goals as goal

pub returns-then-not-has : goal.returns-then-not-has
unfolding column_at
returns-then-not-has c = rw (sym c.has.ensures ∙ c.if-not-has.true)

pub bounds-s-at : goal.bounds-s-at
bounds-s-at c =
    omega (arith, leb-true (c.args.at + 2) (length c.args.s.now) (sym c.has.ensures ∙ c.if-not-has.false))

pub returns-then-b-gt1 : goal.returns-then-b-gt1
unfolding column_at
returns-then-b-gt1 c = rw (sym c.has.ensures ∙ c.if-not-has.false, lt-leb _ _ c.if-b-gt1.true)

pub returns-in_err-ty : goal.returns-in_err-ty
unfolding column_at
returns-in_err-ty c =
    rw (
      sym c.has.ensures
          ∙ c.if-not-has.false,
      le-leb _ _ c.if-b-gt1.false,
      ← c.in_err-ty.ensures,
    ) c.from_residual.ensures

pub returns : goal.returns
unfolding column_at
returns c = rw (sym c.has.ensures ∙ c.if-not-has.false, le-leb _ _ c.if-b-gt1.false, ← c.in_ok-ty.ensures)
