-- The loop keeps the count of the bits passed, at most one for each. Assumes nothing.
use Rattle.common.specs.Bytes.{low_count}
use Rattle.bucket_piece.proofs.LowBits.{count_turn}
use mathlib.Core.Path.{refl}
use native.Mathlib.Omega.{arith}
use Rattle.bucket_piece.proofs.bits.count_each.Goals as goal

pub loop-i-init : goal.loop-i-init
unfolding low_count
loop-i-init c = (omega arith, refl, omega arith)

pub loop-i-preserved : goal.loop-i-preserved
loop-i-preserved c = (
  omega arith,
  omega (arith, count_turn c.args.s.now c.args.at c.loop-i.i, c.bit_at.ensures.0),
  omega (arith, c.bit_at.ensures.1),
)
