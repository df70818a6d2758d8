-- After j turns the first j exceptions are added, and no sum is over 63.
-- Assumes nothing.
use mathlib.Core.Path.{refl, ap, ◌∙◌}
use Prim.Native.Nat.{ℕ, ◌+◌, ◌*◌, ◌^◌}
use native.Mathlib.Omega.{arith}
use lib.ListN.{get_or}
use Rattle.bitmap_spec.proofs.Parts.{within}
use Rattle.chunk_read.proofs.Patching.{begin, stop, more, end, shifted}
use Rattle.chunk_read.proofs.patch.Goals as goal

pub loop-j-init : goal.loop-j-init
loop-j-init c = begin _ _ _ _ _ c.requires.2

pub overflow_add-x : goal.overflow_add-x
overflow_add-x c =
    let pre = c.requires in
    omega (arith, pre.1.second, c.loop-j-test.true)

pub bounds-s-h : goal.bounds-s-h
bounds-s-h c =
    let pre = c.requires in
    omega (arith, pre.1.second, c.loop-j-test.true)

pub overflow_cast-x : goal.overflow_cast-x
overflow_cast-x c =
    let args = c.args in
    let loop = c.loop-j in
    omega (arith, c.type_inv.s (args.h.offsets + loop.j))

pub overflow_add-x-in-loop-j : goal.overflow_add-x-in-loop-j
overflow_add-x-in-loop-j c =
    let pre = c.requires in
    let loop = c.loop-j in
    omega (arith, pre.0, pre.1.inside loop.j c.loop-j-test.true)

pub bounds-out-x : goal.bounds-out-x
bounds-out-x c =
    let pre = c.requires in
    let loop = c.loop-j in
    let if1 = c.loop-j-test in
    omega (arith, pre.0, pre.1.inside loop.j if1.true, loop.invariant.kept)

pub overflow_cast-v : goal.overflow_cast-v
overflow_cast-v c =
    let args = c.args in
    let loop = c.loop-j in
    omega (arith, c.type_inv.out (args.k + get_or args.s.now (args.h.offsets + loop.j) 0))

pub packed_value-requires : goal.packed_value-requires
packed_value-requires c =
    let a = c.args in
    let h = c.requires.1 in (
      omega (arith, h.widths),
      omega (arith, h.few),
      omega (
        arith,
        h.third,
        within a.h.e c.loop-j.j a.h.b2
            c.loop-j-test.true,
      ),
    )

pub overflow_shl-v : goal.overflow_shl-v
overflow_shl-v c =
    let pre = c.requires in
    omega (arith, pre.1.widths)

pub overflow_add-v : goal.overflow_add-v
overflow_add-v c =
    let args = c.args in
    let pre = c.requires in
    let loop = c.loop-j in
    let packed-value = c.packed_value in
    omega (
      arith,
      c.type_inv.out (args.k + get_or args.s.now (args.h.offsets + loop.j) 0),
      (shifted args.h.b1 args.h.b2 _ pre.1.widths packed-value.ensures.1).0,
      (shifted args.h.b1 args.h.b2 _ pre.1.widths packed-value.ensures.1).1,
    )

pub shape_of-out-then-v-gt63 : goal.shape_of-out-then-v-gt63
shape_of-out-then-v-gt63 c =
    let inv = c.loop-j.invariant in
    inv.kept

pub returns-then-v-gt63 : goal.returns-then-v-gt63
returns-then-v-gt63 c =
    let a = c.args in
    let l = c.loop-j in
    let e = (shifted a.h.b1 a.h.b2 _
    c.requires.1.widths
    c.packed_value.ensures.1).0 in
    stop a.s.now a.h a.n a.k _ l.out l.j l.invariant _ _ refl
    c.loop-j-test.true
    (c.requires.1.inside
    l.j c.loop-j-test.true)
    (ap (λ (z : ℕ). get_or l.out (a.k + get_or a.s.now (a.h.offsets + l.j) 0) 0 + z)
    (e ∙ ap (λ (z : ℕ). z * 2 ^ a.h.b1) c.packed_value.ensures.0))
    c.if-v-gt63.true

pub overflow_cast-out : goal.overflow_cast-out
overflow_cast-out c = omega (arith, c.if-v-gt63.false)

pub bounds-out-x-in-loop-j : goal.bounds-out-x-in-loop-j
bounds-out-x-in-loop-j c =
    let pre = c.requires in
    let loop = c.loop-j in
    let if1 = c.loop-j-test in
    omega (arith, pre.0, pre.1.inside loop.j if1.true, loop.invariant.kept)

pub loop-j-preserved : goal.loop-j-preserved
loop-j-preserved c =
    let a = c.args in
    let l = c.loop-j in
    let e = (shifted a.h.b1 a.h.b2 _
    c.requires.1.widths
    c.packed_value.ensures.1).0 in
    more a.s.now a.h a.n a.k _ l.out l.j l.invariant _ _ refl
    c.loop-j-test.true
    (c.requires.1.inside
    l.j c.loop-j-test.true)
    (ap (λ (z : ℕ). get_or l.out (a.k + get_or a.s.now (a.h.offsets + l.j) 0) 0 + z)
    (e ∙ ap (λ (z : ℕ). z * 2 ^ a.h.b1) c.packed_value.ensures.0))
    c.requires.0
    c.if-v-gt63.false

pub shape_of-out : goal.shape_of-out
shape_of-out c = c.loop-j.invariant.kept

pub returns : goal.returns
returns c =
    let loop = c.loop-j in
    end _ _ _ _ _ loop.out loop.j loop.invariant c.loop-j-test.false
