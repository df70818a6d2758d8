-- The members counted so far and those below the position in the containers that are left are all below it.
-- Assumes nothing.
use Prim.Native.Nat.{◌%◌}
use native.Mathlib.Omega.{arith}
use lib.ListN.{get_or}
use Rattle.bitmap_spec.specs.Judge.{container}
use Rattle.bitmap_read.proofs.Below.{counted-all, counted-own, counted_next, below-le}
use Rattle.bitmap_read.proofs.Containers.{few}
use Rattle.bitmap_read.proofs.Held.{walk-room}
use Rattle.bitmap_read.proofs.set_below.Goals as goal

pub container_below-requires : goal.container_below-requires
container_below-requires c = walk-room _ _ _ _ _ c.loop-i.invariant.walk c.loop-i-test.true

pub overflow_add-result : goal.overflow_add-result
overflow_add-result c =
    let s = c.args.set.now.bytes.now in
    let t = get_or c.args.set.now.descriptors.now c.loop-i.i 0 in
    omega (
      arith,
      c.container_below.ensures,
      c.loop-i.invariant.small,
      c.args.set.now.sound.few,
      below-le (c.args.position % 256) (container s c.loop-i.at t),
      few s c.loop-i.at t (walk-room _ _ _ _ _ c.loop-i.invariant.walk c.loop-i-test.true),
    )

pub returns-then-i-own : goal.returns-then-i-own
returns-then-i-own c =
    counted-own _ _ _ _ _ _ _ _ c.loop-i.invariant c.loop-i-test.true _ c.if-i-own.true c.container_below.ensures

pub container_count-below-requires : goal.container_count-below-requires
container_count-below-requires c = walk-room _ _ _ _ _ c.loop-i.invariant.walk c.loop-i-test.true

pub overflow_add-below : goal.overflow_add-below
overflow_add-below c =
    let t = get_or c.args.set.now.descriptors.now c.loop-i.i 0 in
    omega (
      arith,
      c.container_count-below.ensures,
      c.loop-i.invariant.small,
      c.args.set.now.sound.few,
      few c.args.set.now.bytes.now c.loop-i.at t (walk-room _ _ _ _ _ c.loop-i.invariant.walk c.loop-i-test.true),
    )

pub overflow_add-at : goal.overflow_add-at
overflow_add-at c =
    omega (arith, c.size_of-at.ensures, walk-room _ _ _ _ _ c.loop-i.invariant.walk c.loop-i-test.true)

pub loop-i-preserved : goal.loop-i-preserved
loop-i-preserved c =
    counted_next _ _ _ _ _ _ _ _ c.loop-i.invariant c.loop-i-test.true _ _ c.if-i-own.false
    c.container_count-below.ensures c.size_of-at.ensures

pub returns : goal.returns
returns c = counted-all _ _ _ _ _ _ _ _ c.loop-i.invariant c.loop-i-test.false
