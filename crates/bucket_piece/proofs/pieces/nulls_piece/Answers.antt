-- By the tests, in the order of the definition. Assumes nothing.
use Prim.Native.Nat.{◌/◌, ◌+◌}
use borrow.Author.Tests.{leb-true}
use Rattle.common.specs.Outcome.{need}
use Rattle.common.specs.Bytes.{ceil8}
use Rattle.bucket_spec.specs.Piece.{nulls_piece}
use mathlib.Core.Path.{sym, ◌∙◌}
use native.Mathlib.Omega.{arith}
use lib.ListN.{length}
use Rattle.bucket_piece.proofs.pieces.nulls_piece.Goals as goal
use Rattle.bucket_piece.proofs.pieces.nulls_piece.Goals.{else-not-nullable-via-then-not-nullable+else-not-none_set}
use Rattle.bucket_piece.proofs.pieces.nulls_piece.Goals.{else-not-nullable-via-else-not-nullable}

pub returns-then-not-mapped : goal.returns-then-not-mapped
unfolding nulls_piece
returns-then-not-mapped c = rw (c.if-not-mapped.true)

pub returns-then-not-has : goal.returns-then-not-has
unfolding nulls_piece need ceil8
returns-then-not-has c =
    rw (
      c.if-not-mapped.false,
      sym c.has.ensures ∙ c.if-not-has.true,
    )

pub spare_zero-requires : goal.spare_zero-requires
unfolding ceil8
spare_zero-requires c = (
  leb-true (c.args.at + (c.args.n + 7) / 8) (length c.args.s.now)
      (sym c.has.ensures ∙ c.if-not-has.false),
  omega arith,
)

pub returns-then-not-spare_zero : goal.returns-then-not-spare_zero
unfolding nulls_piece need ceil8
returns-then-not-spare_zero c =
    rw (
      c.if-not-mapped.false,
      sym c.has.ensures ∙ c.if-not-has.false,
      sym c.spare_zero.ensures ∙ c.if-not-spare_zero.true,
    )

pub returns-then-not-none_set : goal.returns-then-not-none_set
unfolding nulls_piece need ceil8
returns-then-not-none_set c =
    rw (
      c.if-not-mapped.false,
      sym c.has.ensures ∙ c.if-not-has.false,
      sym c.spare_zero.ensures ∙ c.if-not-spare_zero.false,
      c.if-not-nullable.true,
      sym c.none_set.ensures ∙ c.if-not-none_set.true,
    )

pub returns : goal.returns
unfolding nulls_piece need ceil8
returns c = elim c.else-not-nullable.branch [
  | else-not-nullable-via-then-not-nullable+else-not-none_set w ↦
      rw (
        c.if-not-mapped.false,
        sym c.has.ensures ∙ c.if-not-has.false,
        sym c.spare_zero.ensures ∙ c.if-not-spare_zero.false,
        w.if-not-nullable.true,
        sym w.none_set.ensures ∙ w.if-not-none_set.false,
      )
  | else-not-nullable-via-else-not-nullable w ↦
      rw (
        c.if-not-mapped.false,
        sym c.has.ensures ∙ c.if-not-has.false,
        sym c.spare_zero.ensures ∙ c.if-not-spare_zero.false,
        w.if-not-nullable.false,
      )
]
