-- After g groups g * 8 values stand.
-- Assumes nothing.
use mathlib.Core.Path.{◌≡◌, refl, ap, ◌∙◌}
use Prim.Native.Nat.{ℕ, ◌+◌}
use native.Mathlib.Omega.{arith}
use Rattle.bitmap_spec.proofs.Parts.{within, prod}
use Rattle.chunk_read.specs.Post.{primary_of}
use Rattle.chunk_read.proofs.Writing.{nothing, eight-more}
use Rattle.chunk_read.proofs.Cutting.{value-group}
use Rattle.chunk_read.proofs.groups.Goals as goal

pub loop-g-init : goal.loop-g-init
loop-g-init c = (omega arith, refl, nothing _ 0 _ _)

pub overflow_mul-g : goal.overflow_mul-g
overflow_mul-g c =
    let args = c.args in
    let pre = c.requires in
    omega (arith, prod 32 8 c.loop-g.g args.w (omega arith) pre.0)

pub overflow_add-at : goal.overflow_add-at
overflow_add-at c =
    let args = c.args in
    let pre = c.requires in
    omega (arith, within args.whole c.loop-g.g args.w c.loop-g-test.true, pre.3)

pub group-x-requires : goal.group-x-requires
group-x-requires c =
    let args = c.args in
    let pre = c.requires in
    (pre.0, omega (arith, within args.whole c.loop-g.g args.w c.loop-g-test.true, pre.3))

pub overflow_mul-g-in-loop-g : goal.overflow_mul-g-in-loop-g
overflow_mul-g-in-loop-g c =
    let pre = c.requires in
    omega (arith, pre.4, c.loop-g-test.true)

pub overflow_add-k : goal.overflow_add-k
overflow_add-k c =
    let pre = c.requires in
    omega (arith, pre.4, c.loop-g-test.true)

pub put_eight-any-requires : goal.put_eight-any-requires
put_eight-any-requires c =
    let pre = c.requires in
    let inv = c.loop-g.invariant in
    (pre.0, pre.1, omega (arith, pre.4, c.loop-g-test.true, inv.1))

pub loop-g-preserved : goal.loop-g-preserved
unfolding primary_of
loop-g-preserved c =
    let a = c.args in
    let l = c.loop-g in (
      omega arith,
      c.put_eight-any.auto.out ∙ l.invariant.1,
      eight-more (primary_of a.s.now a.at a.w a.m) _ l.g a.k _ l.out _ l.any _
          (λ t u.
          ap (λ (z : ℕ). a.m + z)
          (value-group a.s.now a.at a.w l.g t _
          c.group-x.ensures u))
          l.invariant.2 c.put_eight-any.ensures,
    )

pub shape_of-out : goal.shape_of-out
shape_of-out c = c.loop-g.invariant.1

pub returns : goal.returns
returns c =
    let e : c.loop-g.g ≡ c.args.whole = omega arith in
    rw e at c.loop-g.invariant.2
