-- After each turn the values from the first on stand, up to i.
-- Assumes nothing.
use mathlib.Core.Path.{◌≡◌, refl, ap, ◌∙◌}
use Prim.Native.Nat.{ℕ, ◌+◌, ◌<◌}
use native.Mathlib.Omega.{arith}
use lib.ListN.{length, length-set}
use Rattle.bitmap_spec.proofs.Parts.{within}
use Rattle.chunk_read.specs.Post.{primary_of}
use Rattle.chunk_read.proofs.Writing.{nothing, step}
use Rattle.chunk_read.proofs.Cutting.{small-value}
use Rattle.chunk_read.proofs.rest.Goals as goal

pub loop-i-init : goal.loop-i-init
loop-i-init c = (omega arith, omega arith, refl, nothing _ _ _ _)

pub packed_value-requires : goal.packed_value-requires
packed_value-requires c =
    let a = c.args in (
      c.requires.0,
      omega (arith, c.requires.2, c.loop-i-test.true),
      omega (
        arith,
        c.requires.3,
        within a.n c.loop-i.i a.w c.loop-i-test.true,
      ),
    )

pub overflow_add-v : goal.overflow_add-v
overflow_add-v c =
    let args = c.args in
    let pre = c.requires in
    omega (arith, small-value _ args.w pre.0 c.packed_value.ensures.1, pre.1)

pub bounds-out-k : goal.bounds-out-k
bounds-out-k c =
    let pre = c.requires in
    omega (arith, c.loop-i.invariant.2, pre.4, c.loop-i-test.true)

pub loop-i-preserved : goal.loop-i-preserved
unfolding primary_of
loop-i-preserved c =
    let a = c.args in
    let l = c.loop-i in
    let room : a.k + l.i < length l.out = omega
    (arith, l.invariant.2, c.requires.4, c.loop-i-test.true) in (
      omega (arith, l.invariant.0),
      omega arith,
      length-set l.out (a.k + l.i) _ ∙ l.invariant.2,
      step (primary_of a.s.now a.at a.w a.m) a.first l.i a.k _ l.out l.any _ l.invariant.0
          room (ap (λ (z : ℕ). a.m + z) c.packed_value.ensures.0) l.invariant.3,
    )

pub shape_of-out : goal.shape_of-out
shape_of-out c = c.loop-i.invariant.2

pub returns : goal.returns
returns c =
    let args = c.args in
    let loop = c.loop-i in
    let e : loop.i ≡ args.n = omega (arith, loop.invariant.1, c.loop-i-test.false) in
    rw e at loop.invariant.3
