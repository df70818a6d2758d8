-- After i turns i values stand, so the one before the next is a value too.
-- Assumes nothing.
use mathlib.Core.Path.{◌≡◌, refl, ◌∙◌}
use Prim.Native.Nat.{◌+◌, ◌%◌, ◌<◌}
use native.Mathlib.Nat.{add-zero}
use native.Mathlib.Omega.{arith}
use lib.ListN.{length, length-set}
use Rattle.chunk_read.proofs.Writing.{nothing, one, again}
use Rattle.chunk_read.proofs.repeat_few.Goals as goal

pub returns-then-n-eq0 : goal.returns-then-n-eq0
returns-then-n-eq0 c = rw c.if-n-eq0.true (nothing _ 0 _ _)

pub bounds-out-k : goal.bounds-out-k
bounds-out-k c = omega (arith, c.requires.1, c.if-n-eq0.false)

pub loop-i-init : goal.loop-i-init
loop-i-init c = (omega arith, omega (arith, c.if-n-eq0.false), refl, λ before w. w)

pub overflow_sub-out : goal.overflow_sub-out
overflow_sub-out c = omega (arith, c.loop-i.invariant.0)

pub bounds-out-k-in-loop-i : goal.bounds-out-k-in-loop-i
bounds-out-k-in-loop-i c =
    let args = c.args in
    let loop = c.loop-i in
    let kept = length-set args.out.now args.k (args.m % 256) in
    let room : args.k + loop.i < length loop.out =
    omega (arith, kept, loop.invariant.2, c.requires.1, c.loop-i-test.true) in
    omega (arith, room)

pub bounds-out-k-in-loop-i-2 : goal.bounds-out-k-in-loop-i-2
bounds-out-k-in-loop-i-2 c =
    let args = c.args in
    let loop = c.loop-i in
    let kept = length-set args.out.now args.k (args.m % 256) in
    let room : args.k + loop.i < length loop.out =
    omega (arith, kept, loop.invariant.2, c.requires.1, c.loop-i-test.true) in
    room

pub loop-i-preserved : goal.loop-i-preserved
loop-i-preserved c =
    let args = c.args in
    let loop = c.loop-i in
    let kept = length-set args.out.now args.k (args.m % 256) in
    let room : args.k + loop.i < length loop.out =
    omega (arith, kept, loop.invariant.2, c.requires.1, c.loop-i-test.true) in (
      omega arith,
      omega (arith, c.loop-i-test.true),
      length-set loop.out (args.k + loop.i) _ ∙ loop.invariant.2,
      λ before w.
          again args.m loop.i args.k before loop.out loop.any loop.invariant.0 room
          (loop.invariant.3 before w),
    )

pub shape_of-out : goal.shape_of-out
shape_of-out c =
    let args = c.args in
    c.loop-i.invariant.2 ∙ length-set args.out.now args.k _

pub returns : goal.returns
returns c =
    let args = c.args in
    let loop = c.loop-i in
    let all : loop.i ≡ args.n = omega (arith, loop.invariant.1, c.loop-i-test.false) in
    let room : args.k + 0 < length args.out.now = omega (
      arith,
      c.requires.1,
      c.if-n-eq0.false,
    )
    in
    let first = one (λ j. args.m) 0 args.k args.out.now args.m room refl in
    rw all at (loop.invariant.3 args.out.now (rw (add-zero args.k) at first))
