-- Sparse: as many members as bytes, and nothing is promised of out. Dense: what dense_members writes.
-- Assumes nothing.
use lib.ListN.{length}
use mathlib.Core.Path.{ap, ◌∙◌}
use native.Mathlib.Omega.{arith}
use Rattle.judge.proofs.Walking.{size-sparse, size-dense}
use Rattle.bitmap_read.proofs.Containers.{sparse-count, dense-is}
use Rattle.bitmap_list.proofs.decode.Goals as goal

pub returns-then-d-lt32 : goal.returns-then-d-lt32
returns-then-d-lt32 c = (
  sparse-count c.args.s.now c.args.at c.args.d c.if-d-lt32.true (omega (arith, size-sparse c.args.d c.if-d-lt32.true)),
  λ h. absurd (omega (arith, c.if-d-lt32.true)),
)

pub dense_members-requires : goal.dense_members-requires
dense_members-requires c =
    (omega (arith, size-dense c.args.d c.if-d-lt32.false), omega (arith, c.dense_members-arg-1.given))

pub returns : goal.returns
returns c =
    (c.dense_members.ensures.0 ∙ ap length (dense-is c.args.s.now c.args.at c.args.d c.if-d-lt32.false), λ h. rw (← c.dense_members.ensures.0) c.dense_members.ensures.1)
