-- The invariant: m is how many of the bytes passed have their bit set; each adds its bit.
-- Assumes nothing.
use mathlib.Core.Path.{◌∙◌, ◌≡◌, refl}
use Prim.Native.Nat.{◌+◌}
use native.Mathlib.Omega.{arith}
use Rattle.pair_write.proofs.Counting.{common-start, common-more}
use Rattle.pair_write.proofs.Filtered.{bit_at}
use Rattle.pair_write.proofs.common.Goals as goal

pub loop-i-init : goal.loop-i-init
loop-i-init c =
    (omega arith, omega arith, common-start c.args.s.now c.args.at c.args.t.now c.args.start)

pub overflow_add-x : goal.overflow_add-x
overflow_add-x c =
    omega (arith, c.requires.0, c.loop-i-test.true)

pub bounds-s-at : goal.bounds-s-at
bounds-s-at c =
    omega (arith, c.requires.0, c.loop-i-test.true)

pub overflow_cast-x : goal.overflow_cast-x
overflow_cast-x c =
    omega (arith, c.type_inv.s (c.args.at + c.loop-i.i))

pub overflow_add-start : goal.overflow_add-start
overflow_add-start c =
    omega (arith, c.requires.1, c.type_inv.s (c.args.at + c.loop-i.i))

pub bounds-t-start : goal.bounds-t-start
bounds-t-start c =
    omega (arith, c.requires.1, c.type_inv.s (c.args.at + c.loop-i.i))

pub overflow_cast-m : goal.overflow_cast-m
overflow_cast-m c = omega (arith, c.bit_of.ensures)

pub overflow_add-m : goal.overflow_add-m
overflow_add-m c =
    omega (arith, c.bit_of.ensures, c.loop-i.invariant.1, c.loop-i-test.true, c.requires.2)

pub loop-i-preserved : goal.loop-i-preserved
loop-i-preserved c = (
  omega (arith, c.loop-i-test.true),
  omega (arith, c.loop-i.invariant.1, c.bit_of.ensures),
  common-more c.args.s.now c.args.at c.args.t.now c.args.start c.loop-i.i _ c.bit_of.result c.loop-i.m
      (omega (arith, c.requires.0, c.loop-i-test.true)) refl (c.bit_of.ensures ∙ bit_at c.args.t.now c.args.start _)
      c.loop-i.invariant.2,
)

pub returns : goal.returns
returns c =
    let e : c.loop-i.i ≡ c.args.n = omega (arith, c.loop-i-test.false, c.loop-i.invariant.0) in
    rw e at c.loop-i.invariant.2
