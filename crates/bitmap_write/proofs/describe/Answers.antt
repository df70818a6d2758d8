-- The invariant: the descriptors of the containers passed are filled in, and i is where the next run begins.
-- Assumes nothing.
use lib.ListN.{length-set}
use Rattle.form_write.proofs.Cells.{no-descs}
use Rattle.bitmap_write.proofs.Runs.{below-zero}
use Rattle.bitmap_write.proofs.Writing.{next-below, next-desc}
use mathlib.Core.Path.{◌≡◌, refl}
use native.Mathlib.Omega.{arith}
use Rattle.bitmap_write.proofs.describe.Goals as goal

pub count_of-n-requires : goal.count_of-n-requires
count_of-n-requires c = c.requires.0

pub loop-k-init : goal.loop-k-init
loop-k-init c = (
  omega arith,
  c.count_of-n.ensures.1,
  refl,
  below-zero c.args.ps.now,
  no-descs c.args.ps.now c.args.ds.now,
)

pub overflow_add-k : goal.overflow_add-k
overflow_add-k c = omega (arith, c.loop-k.invariant.1)

pub overflow_mul-k : goal.overflow_mul-k
overflow_mul-k c = omega (arith, c.loop-k.invariant.1)

pub overflow_cast-k : goal.overflow_cast-k
overflow_cast-k c = omega (arith, c.loop-k.invariant.1)

pub run_end-j-requires : goal.run_end-j-requires
run_end-j-requires c = c.loop-k.invariant.3.within

pub overflow_sub-j : goal.overflow_sub-j
overflow_sub-j c = c.run_end-j.ensures.order

pub bounds-ds-k : goal.bounds-ds-k
bounds-ds-k c = omega (arith, c.loop-k.invariant.1, c.loop-k.invariant.2, c.requires.1)

pub loop-k-preserved : goal.loop-k-preserved
loop-k-preserved c = (
  omega arith,
  c.loop-k.invariant.1,
  simp length-set c.loop-k.invariant.2,
  next-below c.args.ps.now c.loop-k.k c.loop-k.i c.run_end-j.result c.requires.0 c.loop-k.invariant.3
      c.run_end-j.ensures,
  next-desc c.args.ps.now c.args.ds.now c.loop-k.ds c.loop-k.k c.loop-k.i c.run_end-j.result
      c.descriptor.result c.requires.0 c.loop-k.invariant.3 c.run_end-j.ensures
      (omega (arith, c.loop-k.invariant.1, c.requires.1)) c.descriptor.ensures c.loop-k.invariant.4,
)

pub shape_of-ds : goal.shape_of-ds
shape_of-ds c = c.loop-k.invariant.2

pub returns : goal.returns
returns c = let e : c.loop-k.k ≡ c.count_of-n.result = omega arith in
    (c.count_of-n.ensures.0, c.count_of-n.ensures.1, rw e at c.loop-k.invariant.4)
