-- After i bytes x is the number of their bits.
-- Assumes nothing.
use mathlib.Core.Path.{◌≡◌, refl}
use Prim.Native.Nat.{◌+◌}
use native.Mathlib.Omega.{arith}
use Rattle.bitmap_spec.specs.Bits.{bits}
use Rattle.chunk_read.proofs.Cutting.{group-more, group-fits}
use Rattle.chunk_read.proofs.group.Goals as goal

pub loop-i-init : goal.loop-i-init
unfolding bits
loop-i-init c = (omega arith, refl)

pub overflow_mul-x : goal.overflow_mul-x
overflow_mul-x c =
    let args = c.args in
    let loop = c.loop-i in
    omega (arith, group-fits args.s.now args.q loop.i loop.x loop.invariant.1 (omega arith))

pub overflow_cast-x : goal.overflow_cast-x
overflow_cast-x c =
    let args = c.args in
    omega (arith, c.type_inv.s (args.q + c.loop-i.i))

pub overflow_add-x-in-loop-i : goal.overflow_add-x-in-loop-i
overflow_add-x-in-loop-i c =
    let args = c.args in
    let loop = c.loop-i in
    omega (
      arith,
      c.type_inv.s (args.q + loop.i),
      group-fits args.s.now args.q loop.i loop.x loop.invariant.1 (omega arith),
    )

pub loop-i-preserved : goal.loop-i-preserved
loop-i-preserved c =
    let args = c.args in
    let loop = c.loop-i in (
      omega arith,
      group-more args.s.now args.q loop.i loop.x loop.invariant.1
          (omega (arith, c.type_inv.s (args.q + loop.i))),
    )

pub returns : goal.returns
returns c =
    let e : c.loop-i.i ≡ c.args.w = omega arith in
    rw e at c.loop-i.invariant.1
