-- By the tests, in the order of the definition; the bits are at most 524,288. Assumes nothing.
use Prim.Native.Nat.{◌/◌, ◌+◌, ◌*◌}
use borrow.Author.Tests.{leb-true}
use Rattle.common.specs.Outcome.{need}
use Rattle.common.specs.Bytes.{ceil8}
use Rattle.bucket_spec.specs.Piece.{indexes}
use Rattle.row_laws.proofs.Varints.{prod}
use mathlib.Core.Path.{sym, ◌∙◌}
use native.Mathlib.Omega.{arith}
use lib.ListN.{length}
use Rattle.bucket_piece.proofs.indexes.indexes_end.Goals as goal

pub returns-then-not-has : goal.returns-then-not-has
unfolding indexes need ceil8
returns-then-not-has c = rw (sym c.has.ensures ∙ c.if-not-has.true)

pub returns-then-not-all_below : goal.returns-then-not-all_below
unfolding indexes need ceil8
returns-then-not-all_below c =
    rw (
      sym c.has.ensures ∙ c.if-not-has.false,
      sym c.all_below.ensures ∙ c.if-not-all_below.true,
    )

pub spare_zero-requires : goal.spare_zero-requires
unfolding ceil8
spare_zero-requires c = (
  leb-true (c.args.at + (c.args.m * c.args.w + 7) / 8) (length c.args.s.now)
      (sym c.has.ensures ∙ c.if-not-has.false),
  omega (arith, prod 65536 8 {m = c.args.m} {n = c.args.w} (omega arith) (omega arith)),
)

pub returns-then-not-spare_zero : goal.returns-then-not-spare_zero
unfolding indexes need ceil8
returns-then-not-spare_zero c =
    rw (
      sym c.has.ensures ∙ c.if-not-has.false,
      sym c.all_below.ensures ∙ c.if-not-all_below.false,
      sym c.spare_zero.ensures ∙ c.if-not-spare_zero.true,
    )

pub returns : goal.returns
unfolding indexes need ceil8
returns c =
    rw (
      sym c.has.ensures ∙ c.if-not-has.false,
      sym c.all_below.ensures ∙ c.if-not-all_below.false,
      sym c.spare_zero.ensures ∙ c.if-not-spare_zero.false,
    )
