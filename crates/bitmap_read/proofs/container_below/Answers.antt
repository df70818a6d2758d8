-- Sparse: the bytes below j. Dense: the set bits before bit j.
-- Assumes nothing.
use mathlib.Core.Path.{ap, ◌∙◌}
use native.Mathlib.Omega.{arith}
use Rattle.bitmap_spec.specs.Ask as ask
use Rattle.judge.proofs.Walking.{size-sparse, size-dense}
use Rattle.bitmap_read.proofs.Containers.{sparse-is, dense-is}
use Rattle.bitmap_read.proofs.container_below.Goals as goal

pub listed_below-requires : goal.listed_below-requires
listed_below-requires c = omega (arith, size-sparse c.args.d c.if-d-lt32.true)

pub returns-then-d-lt32 : goal.returns-then-d-lt32
returns-then-d-lt32 c =
    c.listed_below.ensures ∙ ap (ask.below c.args.j)
    (sparse-is c.args.s.now c.args.at c.args.d c.if-d-lt32.true)

pub dense_below-requires : goal.dense_below-requires
dense_below-requires c = omega (arith, size-dense c.args.d c.if-d-lt32.false)

pub returns : goal.returns
returns c =
    c.dense_below.ensures ∙ ap (ask.below c.args.j)
    (dense-is c.args.s.now c.args.at c.args.d c.if-d-lt32.false)
