-- The loop goes down from the last bit and keeps v as the bits behind j. Assumes nothing.
use Prim.Native.Nat.{ℕ, ◌+◌, ◌*◌}
use mathlib.Core.Path.{ap, ◌∙◌}
use native.Mathlib.Nat.{sub_self}
use Rattle.common.specs.Bytes.{low_bits}
use Rattle.bucket_piece.proofs.LowBits.{bits-turn, bits-grow}
use native.Mathlib.Omega.{arith}
use Rattle.bucket_piece.proofs.bits.bits_at.Goals as goal

pub loop-j-init : goal.loop-j-init
unfolding low_bits
loop-j-init c = (omega arith, simp sub_self, simp sub_self (omega arith))

pub loop-j-preserved : goal.loop-j-preserved
loop-j-preserved c = (
  omega arith,
  ap (λ (b : ℕ). c.loop-j.v * 2 + b) c.bit_at.ensures.0 ∙ bits-turn c.args.w c.loop-j.j c.loop-j-test.true
      c.loop-j.invariant.0 c.args.s.now c.args.at c.args.i c.loop-j.v c.loop-j.invariant.1,
  bits-grow c.args.w c.loop-j.j c.loop-j-test.true c.loop-j.invariant.0 c.loop-j.v c.bit_at.result c.loop-j.invariant.2
      c.bit_at.ensures.1,
)
