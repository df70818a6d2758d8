-- The invariant: m is how many of the bytes passed have the stamp as their mark.
-- Assumes nothing.
use mathlib.Core.Path.{◌≡◌, refl}
use Prim.Native.Nat.{◌+◌}
use native.Mathlib.Omega.{arith}
use lib.ListN.{drop, get_or}
use lib.Dec.{eqb}
use Rattle.pair_write.proofs.Counting.{count-start, count-more}
use Rattle.pair_write.proofs.Filtered.{byte_le}
use Rattle.pair_write.proofs.marked.Goals as goal

pub loop-i-init : goal.loop-i-init
loop-i-init c = (
  omega arith,
  omega arith,
  count-start (λ x. eqb (get_or c.args.marks.now x 0) c.args.stamp) (drop c.args.at c.args.s.now),
)

pub overflow_add-m : goal.overflow_add-m
overflow_add-m c = omega (arith, c.requires.0, c.loop-i-test.true)

pub bounds-s-at : goal.bounds-s-at
bounds-s-at c =
    omega (arith, c.requires.0, c.loop-i-test.true)

pub overflow_cast-m : goal.overflow_cast-m
overflow_cast-m c =
    omega (arith, c.type_inv.s (c.args.at + c.loop-i.i))

pub offset_bounds-marks-s : goal.offset_bounds-marks-s
offset_bounds-marks-s c =
    omega (arith, c.type_inv.s (c.args.at + c.loop-i.i))

pub bounds-marks-s : goal.bounds-marks-s
bounds-marks-s c =
    omega (arith, c.requires.1, c.type_inv.s (c.args.at + c.loop-i.i))

pub overflow_add-m-in-loop-i : goal.overflow_add-m-in-loop-i
overflow_add-m-in-loop-i c =
    omega (
      arith,
      c.loop-i.invariant.1,
      c.loop-i-test.true,
      c.requires.2,
      byte_le (eqb (get_or c.args.marks.now (get_or c.args.s.now (c.args.at + c.loop-i.i) 0) 0) c.args.stamp),
    )

pub loop-i-preserved : goal.loop-i-preserved
loop-i-preserved c = (
  omega (arith, c.loop-i-test.true),
  omega (
    arith,
    c.loop-i.invariant.1,
    byte_le (eqb (get_or c.args.marks.now (get_or c.args.s.now (c.args.at + c.loop-i.i) 0) 0) c.args.stamp),
  ),
  count-more (λ x. eqb (get_or c.args.marks.now x 0) c.args.stamp) c.args.s.now c.args.at c.loop-i.i _
      c.loop-i.m (omega (arith, c.requires.0, c.loop-i-test.true)) refl c.loop-i.invariant.2,
)

pub returns : goal.returns
returns c =
    let e : c.loop-i.i ≡ c.args.n = omega (arith, c.loop-i-test.false, c.loop-i.invariant.0) in
    rw e at c.loop-i.invariant.2
