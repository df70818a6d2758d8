-- The null bitmap is there, and its spare bits are 0.
-- Assumes nothing.
use mathlib.Core.Path.{sym, ◌∙◌}
use Prim.Native.Nat.{◌+◌, ◌/◌}
use native.Mathlib.Omega.{arith}
use lib.ListN.{length}
use borrow.Author.Tests.{leb-true}
use Rattle.common.specs.Bytes.{ceil8}
use Rattle.row_walk.proofs.Walking.{head-short, head-spare, head-found}
use Rattle.row_walk.proofs.head_of.Goals as goal

pub returns-then-not-has : goal.returns-then-not-has
returns-then-not-has c =
    sym (head-short c.args.row.now c.args.columns (sym c.has.ensures ∙ c.if-not-has.true))

pub spare_zero-requires : goal.spare_zero-requires
unfolding ceil8
spare_zero-requires c = (
  leb-true (0 + (c.args.columns + 7) / 8) (length c.args.row.now)
      (sym c.has.ensures ∙ c.if-not-has.false),
  omega arith,
)

pub returns-then-not-spare_zero : goal.returns-then-not-spare_zero
returns-then-not-spare_zero c =
    sym
    (head-spare c.args.row.now c.args.columns (sym c.has.ensures ∙ c.if-not-has.false)
    (sym c.spare_zero.ensures ∙ c.if-not-spare_zero.true))

pub returns : goal.returns
returns c =
    sym
    (head-found c.args.row.now c.args.columns (sym c.has.ensures ∙ c.if-not-has.false)
    (sym c.spare_zero.ensures ∙ c.if-not-spare_zero.false))
