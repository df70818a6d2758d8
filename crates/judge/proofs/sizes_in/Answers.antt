-- After k descriptors t is the sum of their sizes, each at most 32.
-- Assumes nothing.
use mathlib.Core.Path.{refl}
use Prim.Native.Nat.{◌+◌}
use native.Mathlib.Omega.{arith}
use lib.ListN.{get_or}
use Rattle.bitmap_spec.proofs.Tally.{tally}
use Rattle.judge.proofs.Walking.{size-le}
use Rattle.judge.proofs.Descents.{size-more}
use Rattle.judge.proofs.sizes_in.Goals as goal

pub loop-k-init : goal.loop-k-init
unfolding tally
loop-k-init c = (omega arith, refl, omega arith)

pub overflow_cast-t : goal.overflow_cast-t
overflow_cast-t c =
    omega (arith, c.size_of.ensures, size-le (get_or c.args.d.now (c.args.i + c.loop-k.k) 0))

pub overflow_add-t : goal.overflow_add-t
overflow_add-t c =
    omega (
      arith,
      c.size_of.ensures,
      size-le (get_or c.args.d.now (c.args.i + c.loop-k.k) 0),
      c.loop-k.invariant.2,
      c.loop-k-test.true,
      c.requires.0,
    )

pub loop-k-preserved : goal.loop-k-preserved
loop-k-preserved c = (
  omega arith,
  omega (arith, c.size_of.ensures, size-more c.args.d.now c.args.i c.loop-k.k, c.loop-k.invariant.1),
  omega (arith, c.size_of.ensures, size-le (get_or c.args.d.now (c.args.i + c.loop-k.k) 0), c.loop-k.invariant.2),
)
