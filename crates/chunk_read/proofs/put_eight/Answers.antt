-- After t turns the first t values stand, and any is the or of them.
-- Assumes nothing.
use mathlib.Core.Path.{◌≡◌, refl, ap, ◌∙◌}
use Prim.Native.Nat.{ℕ, ◌+◌, ◌-◌, ◌*◌, ◌/◌, ◌%◌, ◌^◌, ◌<◌}
use native.Mathlib.Omega.{arith}
use lib.ListN.{length, length-set}
use Rattle.chunk_read.proofs.Writing.{nothing, step}
use Rattle.chunk_read.proofs.put_eight.Goals as goal

pub loop-t-init : goal.loop-t-init
loop-t-init c = (omega arith, refl, nothing _ 0 _ _)

pub nth-requires : goal.nth-requires
nth-requires c =
    let pre = c.requires in
    (pre.0, c.loop-t-test.true)

pub overflow_add-v : goal.overflow_add-v
overflow_add-v c =
    let pre = c.requires in
    omega (arith, c.nth.ensures.1, pre.1)

pub bounds-out-to : goal.bounds-out-to
bounds-out-to c =
    let pre = c.requires in
    omega (arith, c.loop-t.invariant.1, pre.2, c.loop-t-test.true)

pub loop-t-preserved : goal.loop-t-preserved
loop-t-preserved c =
    let a = c.args in
    let l = c.loop-t in
    let room : a.to + l.t < length l.out = omega
    (arith, l.invariant.1, c.requires.2, c.loop-t-test.true) in (
      omega arith,
      length-set l.out (a.to + l.t) _ ∙ l.invariant.1,
      step (λ t. a.m + a.x / 2 ^ (a.w * (7 - t)) % 2 ^ a.w) 0 l.t a.to _ l.out l.any _ (omega arith)
          room (ap (λ (z : ℕ). a.m + z) c.nth.ensures.0) l.invariant.2,
    )

pub shape_of-out : goal.shape_of-out
shape_of-out c = c.loop-t.invariant.1

pub returns : goal.returns
returns c =
    let e : c.loop-t.t ≡ 8 = omega arith in
    rw e at c.loop-t.invariant.2
