-- The invariant: v packs the bits of the bytes passed; a turn adds eight bits.
-- Assumes nothing.
use Rattle.blocks.proofs.Members.{word-start, word_more, word_fits}
use mathlib.Core.Path.{◌≡◌}
use Prim.Native.Nat.{◌+◌}
use native.Mathlib.Omega.{arith}
use Rattle.blocks.proofs.word.Goals as goal

pub loop-i-init : goal.loop-i-init
loop-i-init c = (omega arith, word-start c.args.s.now c.args.at)

pub overflow_mul-v : goal.overflow_mul-v
overflow_mul-v c =
    omega (arith, word_fits c.args.s.now c.args.at c.loop-i.i c.loop-i.v c.loop-i.invariant.1 c.loop-i-test.true)

pub overflow_cast-v : goal.overflow_cast-v
overflow_cast-v c =
    omega (arith, c.type_inv.s (c.args.at + c.loop-i.i))

pub overflow_add-v-in-loop-i : goal.overflow_add-v-in-loop-i
overflow_add-v-in-loop-i c =
    omega (
      arith,
      word_fits c.args.s.now c.args.at c.loop-i.i c.loop-i.v c.loop-i.invariant.1 c.loop-i-test.true,
      c.type_inv.s (c.args.at + c.loop-i.i),
    )

pub loop-i-preserved : goal.loop-i-preserved
loop-i-preserved c = (
  omega arith,
  word_more c.args.s.now c.args.at c.loop-i.i c.loop-i.v c.loop-i.invariant.1
      (omega (arith, c.type_inv.s (c.args.at + c.loop-i.i))),
)

pub returns : goal.returns
returns c = let e : c.loop-i.i ≡ 8 = omega arith in rw e at c.loop-i.invariant.1
