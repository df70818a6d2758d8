-- The invariant (Along): the containers passed are written, and i is where the next run begins.
-- Assumes nothing.
use Rattle.bitmap_laws.proofs.Output.{along-start, along-room, along-length, along-end}
use Rattle.form_write.proofs.Cells.{cells-all, cells-none}
use Rattle.bitmap_write.proofs.Runs.{below-zero}
use Rattle.bitmap_write.proofs.Writing.{next-below, next_up, next_fits, next-written}
use native.Mathlib.Omega.{arith}
use Rattle.bitmap_write.proofs.put_runs.Goals as goal

pub loop-k-init : goal.loop-k-init
loop-k-init c = (
  omega arith,
  below-zero c.args.ps.now,
  along-start c.args.out.now c.args.at _ _ (cells-all c.args.ps.now c.args.n),
)

pub overflow_add-k : goal.overflow_add-k
overflow_add-k c = omega (arith, c.requires.1)

pub overflow_mul-k : goal.overflow_mul-k
overflow_mul-k c = omega (arith, c.requires.1)

pub overflow_cast-k : goal.overflow_cast-k
overflow_cast-k c = omega (arith, c.requires.1)

pub run_end-j-requires : goal.run_end-j-requires
run_end-j-requires c = c.loop-k.invariant.1.within

pub overflow_add-at : goal.overflow_add-at
overflow_add-at c = omega (arith, along-room c.loop-k.invariant.2, along-length c.loop-k.invariant.2 c.requires.2)

pub put_run-t-requires : goal.put_run-t-requires
put_run-t-requires c = (
  c.run_end-j.ensures.order,
  c.run_end-j.ensures.within,
  next_up c.args.ps.now c.loop-k.k c.loop-k.i c.run_end-j.result c.requires.0 c.loop-k.invariant.1
      c.run_end-j.ensures,
  next_fits c.args.ps.now c.loop-k.k c.loop-k.i c.run_end-j.result c.requires.0
      c.loop-k.invariant.1 c.run_end-j.ensures c.loop-k-test.true c.loop-k.invariant.2 c.requires.2,
)

pub overflow_add-t : goal.overflow_add-t
overflow_add-t c = let f = next_fits c.args.ps.now c.loop-k.k c.loop-k.i c.run_end-j.result c.requires.0
    c.loop-k.invariant.1 c.run_end-j.ensures c.loop-k-test.true c.loop-k.invariant.2 c.requires.2 in
    omega (arith, f, c.put_run-t.ensures.0, along-length c.loop-k.invariant.2 c.requires.2)

pub loop-k-preserved : goal.loop-k-preserved
loop-k-preserved c = (
  omega arith,
  next-below c.args.ps.now c.loop-k.k c.loop-k.i c.run_end-j.result c.requires.0
      c.loop-k.invariant.1 c.run_end-j.ensures,
  next-written c.args.ps.now c.loop-k.k c.loop-k.i c.run_end-j.result
      c.requires.0 c.loop-k.invariant.1 c.run_end-j.ensures c.loop-k-test.true c.loop-k.invariant.2 c.requires.2 _
      c.put_run-t.result c.put_run-t.ensures.1 c.put_run-t.ensures.0,
)

pub shape_of-out : goal.shape_of-out
shape_of-out c = along-length c.loop-k.invariant.2 c.requires.2

pub returns : goal.returns
returns c = (along-end c.loop-k.invariant.2 (cells-none c.args.ps.now c.loop-k.k c.args.n (omega arith))).1
