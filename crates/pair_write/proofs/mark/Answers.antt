-- The invariant: the bytes passed have the stamp as their mark, and all others the mark that they had.
-- Assumes nothing.
use mathlib.Core.Path.{◌≡◌, refl}
use Prim.Native.Nat.{◌+◌}
use native.Mathlib.Omega.{arith}
use lib.ListN.{length-set, drop}
use Rattle.pair_write.proofs.Marking.{marks-start, marks-more}
use Rattle.pair_write.proofs.mark.Goals as goal

pub loop-i-init : goal.loop-i-init
loop-i-init c =
    (omega arith, refl, marks-start (drop c.args.at c.args.s.now) c.args.stamp c.args.marks.now)

pub overflow_add-marks : goal.overflow_add-marks
overflow_add-marks c = omega (arith, c.requires.0, c.loop-i-test.true)

pub bounds-s-at : goal.bounds-s-at
bounds-s-at c =
    omega (arith, c.requires.0, c.loop-i-test.true)

pub overflow_cast-marks : goal.overflow_cast-marks
overflow_cast-marks c =
    omega (arith, c.type_inv.s (c.args.at + c.loop-i.i))

pub offset_bounds-marks-s : goal.offset_bounds-marks-s
offset_bounds-marks-s c =
    omega (arith, c.type_inv.s (c.args.at + c.loop-i.i))

pub bounds-marks-s : goal.bounds-marks-s
bounds-marks-s c =
    omega (arith, c.requires.1, c.loop-i.invariant.1, c.type_inv.s (c.args.at + c.loop-i.i))

pub loop-i-preserved : goal.loop-i-preserved
loop-i-preserved c = (
  omega (arith, c.loop-i-test.true),
  simp length-set c.loop-i.invariant.1,
  marks-more c.args.s.now c.args.at c.loop-i.i _ c.args.stamp _ c.loop-i.marks
      (omega (arith, c.requires.0, c.loop-i-test.true)) refl
      (omega (arith, c.requires.1, c.loop-i.invariant.1, c.type_inv.s (c.args.at + c.loop-i.i))) c.loop-i.invariant.2,
)

pub shape_of-marks : goal.shape_of-marks
shape_of-marks c = c.loop-i.invariant.1

pub returns : goal.returns
returns c =
    let e : c.loop-i.i ≡ c.args.n = omega (arith, c.loop-i-test.false, c.loop-i.invariant.0) in
    rw e at c.loop-i.invariant.2
