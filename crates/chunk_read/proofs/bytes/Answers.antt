-- After g bytes g * 8 values of one bit stand.
-- Assumes nothing.
use mathlib.Core.Path.{◌≡◌, refl, ap, ◌∙◌}
use Prim.Native.Nat.{ℕ, ◌+◌}
use native.Mathlib.Omega.{arith}
use Rattle.chunk_read.specs.Post.{primary_of}
use Rattle.chunk_read.proofs.Writing.{nothing, eight-more}
use Rattle.chunk_read.proofs.Cutting.{value-byte}
use Rattle.chunk_read.proofs.bytes.Goals as goal

pub loop-g-init : goal.loop-g-init
loop-g-init c = (omega arith, refl, nothing _ 0 _ _)

pub overflow_cast-x : goal.overflow_cast-x
overflow_cast-x c =
    let args = c.args in
    omega (arith, c.type_inv.s (args.at + c.loop-g.g))

pub overflow_mul-g : goal.overflow_mul-g
overflow_mul-g c =
    let pre = c.requires in
    omega (arith, pre.2, c.loop-g-test.true)

pub overflow_add-k : goal.overflow_add-k
overflow_add-k c =
    let pre = c.requires in
    omega (arith, pre.2, c.loop-g-test.true)

pub put_eight-any-requires : goal.put_eight-any-requires
put_eight-any-requires c =
    let pre = c.requires in
    let inv = c.loop-g.invariant in
    (omega arith, pre.0, omega (arith, pre.2, c.loop-g-test.true, inv.1))

pub loop-g-preserved : goal.loop-g-preserved
unfolding primary_of
loop-g-preserved c =
    let a = c.args in
    let l = c.loop-g in (
      omega arith,
      c.put_eight-any.auto.out ∙ l.invariant.1,
      eight-more (primary_of a.s.now a.at 1 a.m) _ l.g a.k _ l.out _ l.any _
          (λ t u.
          ap (λ (z : ℕ). a.m + z)
          (value-byte a.s.now a.at l.g t
          (omega (
            arith,
            c.type_inv.s
                (a.at + l.g),
          ))
          u))
          l.invariant.2 c.put_eight-any.ensures,
    )

pub shape_of-out : goal.shape_of-out
shape_of-out c = c.loop-g.invariant.1

pub returns : goal.returns
returns c =
    let e : c.loop-g.g ≡ c.args.whole = omega arith in
    rw e at c.loop-g.invariant.2
