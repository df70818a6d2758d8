-- A sparse container has as many members as bytes, a dense one as bits.
-- Assumes nothing.
use native.Mathlib.Omega.{arith}
use Rattle.bitmap_read.proofs.Containers.{few}
use Rattle.pair_write.proofs.Alone.{members-low, members-high}
use Rattle.pair_write.proofs.Joined.{high-room}
use Rattle.pair_write.proofs.members.Goals as goal

pub returns-then-d-lt32 : goal.returns-then-d-lt32
returns-then-d-lt32 c = (
  members-low c.args.s.now c.args.at c.args.d c.requires c.if-d-lt32.true,
  omega (arith, c.if-d-lt32.true),
)

pub dense_count-requires : goal.dense_count-requires
dense_count-requires c =
    high-room _ c.args.at c.args.d c.requires c.if-d-lt32.false

pub returns : goal.returns
returns c =
    let e = members-high c.args.s.now c.args.at c.args.d (c.requires) _ c.if-d-lt32.false c.dense_count.ensures in
    (e, omega (arith, e, few c.args.s.now c.args.at c.args.d (c.requires)))
