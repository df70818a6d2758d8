-- The invariant: x has the values so far, each below the ones before it; eight values of up to eight bits fit.
-- Assumes nothing.
use mathlib.Core.Path.{refl}
use Prim.Native.Nat.{◌+◌}
use native.Mathlib.Omega.{arith}
use lib.ListN.{get_or}
use Rattle.bit_pack.proofs.Groups.{step_fits, shift_fits, word-step, word_none}
use Rattle.bit_pack.proofs.group_word.Goals as goal

pub loop-t-init : goal.loop-t-init
loop-t-init c = (omega arith, word_none (λ k. get_or c.args.vals.now (c.args.i + k) 0) c.args.w)

pub overflow_mul-x : goal.overflow_mul-x
overflow_mul-x c =
    omega (
      arith,
      shift_fits (λ k. get_or c.args.vals.now (c.args.i + k) 0) c.args.w c.requires.0 c.loop-t.t
          c.loop-t.x _ c.loop-t-test.true c.loop-t.invariant.1 refl,
    )

pub overflow_add-x-in-loop-t : goal.overflow_add-x-in-loop-t
overflow_add-x-in-loop-t c =
    omega (
      arith,
      step_fits (λ k. get_or c.args.vals.now (c.args.i + k) 0) c.args.w c.requires.0 c.loop-t.t c.loop-t.x _
          c.loop-t-test.true c.loop-t.invariant.1 refl,
    )

pub loop-t-preserved : goal.loop-t-preserved
loop-t-preserved c = (
  omega (arith, c.loop-t-test.true),
  word-step (λ k. get_or c.args.vals.now (c.args.i + k) 0) c.args.w c.requires.0 c.loop-t.t c.loop-t.x _
      c.loop-t-test.true c.loop-t.invariant.1 refl,
)
