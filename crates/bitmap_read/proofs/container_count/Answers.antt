-- Sparse: as many as bytes. Dense: the set bits.
-- Assumes nothing.
use mathlib.Core.Path.{ap, ◌∙◌}
use native.Mathlib.Omega.{arith}
use lib.ListN.{length}
use Rattle.judge.proofs.Walking.{size-sparse, size-dense}
use Rattle.bitmap_read.proofs.Containers.{sparse-count, dense-is}
use Rattle.bitmap_read.proofs.container_count.Goals as goal

pub returns-then-d-lt32 : goal.returns-then-d-lt32
returns-then-d-lt32 c =
    sparse-count c.args.s.now c.args.at c.args.d c.if-d-lt32.true
    (omega (arith, size-sparse c.args.d c.if-d-lt32.true))

pub dense_count-requires : goal.dense_count-requires
dense_count-requires c = omega (arith, size-dense c.args.d c.if-d-lt32.false)

pub returns : goal.returns
returns c =
    c.dense_count.ensures ∙ ap length (dense-is c.args.s.now c.args.at c.args.d c.if-d-lt32.false)
