-- The invariant: of the members passed those that are kept stand at out[to] and on.
-- Assumes nothing.
use mathlib.Core.Path.{◌≡◌, refl, ◌∙◌}
use Prim.Native.Nat.{◌+◌}
use native.Mathlib.Omega.{arith}
use lib.ListN.{length-set}
use lib.Dec.{eqb}
use Rattle.pair_write.proofs.Filtered.{byte_le, bit_at, kept-start, filter-turn}
use Rattle.pair_write.proofs.filter.Goals as goal

pub loop-i-init : goal.loop-i-init
loop-i-init c =
    let k =
    kept-start c.args.s.now c.args.at c.args.t.now c.args.start c.args.want c.args.out.now c.args.to in
    (omega arith, omega arith, refl, k.0, k.1)

pub overflow_add-x : goal.overflow_add-x
overflow_add-x c =
    omega (arith, c.requires.0, c.loop-i-test.true)

pub bounds-s-at : goal.bounds-s-at
bounds-s-at c =
    omega (arith, c.requires.0, c.loop-i-test.true)

pub overflow_add-out : goal.overflow_add-out
overflow_add-out c =
    omega (arith, c.requires.2, c.loop-i-test.true, c.loop-i.invariant.1)

pub bounds-out-to : goal.bounds-out-to
bounds-out-to c =
    omega (arith, c.requires.2, c.loop-i-test.true, c.loop-i.invariant.1, c.loop-i.invariant.2)

pub overflow_cast-x : goal.overflow_cast-x
overflow_cast-x c =
    omega (arith, c.type_inv.s (c.args.at + c.loop-i.i))

pub overflow_add-start : goal.overflow_add-start
overflow_add-start c =
    omega (arith, c.requires.1, c.type_inv.s (c.args.at + c.loop-i.i))

pub bounds-t-start : goal.bounds-t-start
bounds-t-start c =
    omega (arith, c.requires.1, c.type_inv.s (c.args.at + c.loop-i.i))

pub overflow_cast-m : goal.overflow_cast-m
overflow_cast-m c = tt

pub overflow_add-m : goal.overflow_add-m
overflow_add-m c =
    omega (arith, c.loop-i.invariant.1, c.loop-i-test.true, c.ranges.n, byte_le (eqb c.bit_of-z.result c.args.want))

pub loop-i-preserved : goal.loop-i-preserved
loop-i-preserved c =
    let f = filter-turn c.args.s.now c.args.at c.loop-i.i c.args.t.now c.args.start c.args.want c.args.out.now
    c.loop-i.out c.args.to c.loop-i.m _ c.bit_of-z.result (omega (arith, c.requires.0, c.loop-i-test.true)) refl
    (c.bit_of-z.ensures ∙ bit_at c.args.t.now c.args.start _)
    (omega (arith, c.requires.2, c.loop-i-test.true, c.loop-i.invariant.1, c.loop-i.invariant.2)) c.loop-i.invariant.3
    c.loop-i.invariant.4 in (
      omega (arith, c.loop-i-test.true),
      omega (arith, c.loop-i.invariant.1, byte_le (eqb c.bit_of-z.result c.args.want)),
      simp length-set c.loop-i.invariant.2,
      f.0,
      f.1,
    )

pub shape_of-out : goal.shape_of-out
shape_of-out c = c.loop-i.invariant.2

pub returns : goal.returns
returns c =
    let e : c.loop-i.i ≡ c.args.n = omega (arith, c.loop-i-test.false, c.loop-i.invariant.0) in
    (rw e at c.loop-i.invariant.3, omega (arith, c.loop-i.invariant.1, e), rw e at c.loop-i.invariant.4)
