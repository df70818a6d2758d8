-- What is counted and what is left are the whole, and an empty container counts once in both sums.
-- Assumes nothing.
use Prim.Native.Nat.{◌+◌, ◌-◌}
use native.Mathlib.Omega.{arith}
use lib.ListN.{length, get_or, take, drop}
use lib.Dec.{leb, eqb}
use mir.Val.{bool_byte}
use Rattle.common.specs.Lists.{sum}
use Rattle.bitmap_spec.specs.Judge.{size_of}
use Rattle.judge.proofs.Walking.{sum-cons, size-sparse}
use Rattle.judge.proofs.Descents.{byte_le, edge-one, edge_in, edge-cons, edge-end}
use Rattle.judge.proofs.edges.Goals as goal

pub bounds-s-at : goal.bounds-s-at
bounds-s-at c =
    edge_in c.loop-i.at (get_or c.args.d.now c.loop-i.i 0)
    (sum size_of (drop (c.loop-i.i + 1) (take c.args.n c.args.d.now))) (length c.args.s.now) c.loop-i.invariant.1
    (omega (
      arith,
      sum-cons c.args.d.now c.args.n c.loop-i.i c.requires.1 c.loop-i-test.true,
      size-sparse (get_or c.args.d.now c.loop-i.i 0) (c.requires.2 c.loop-i.i c.loop-i-test.true),
      c.loop-i.invariant.2,
      c.loop-i.invariant.1,
    ))

pub loop-i-preserved : goal.loop-i-preserved
loop-i-preserved c =
    let t = get_or c.args.d.now c.loop-i.i 0 in
    let u = edge-one c.args.s.now c.loop-i.at t c.loop-i.invariant.1 in
    let v = edge-cons c.args.s.now c.args.d.now c.args.n c.loop-i.i c.loop-i.at c.requires.1
    c.loop-i-test.true
    (c.requires.2 c.loop-i.i c.loop-i-test.true) in
    let w = byte_le (eqb t 0) in
    let y = byte_le (leb (get_or c.args.s.now (c.loop-i.at - bool_byte (eqb t 0)) 0) (get_or c.args.s.now (c.loop-i.at - 1) 0)) in (
      omega arith,
      omega (arith, c.loop-i.invariant.1),
      omega (
        arith,
        sum-cons c.args.d.now
            c.args.n c.loop-i.i
            c.requires.1 c.loop-i-test.true,
        size-sparse
            (get_or c.args.d.now
            c.loop-i.i 0)
            (c.requires.2 c.loop-i.i
            c.loop-i-test.true),
        c.loop-i.invariant.2,
        c.loop-i.invariant.1,
      ),
      omega (arith, y, c.loop-i.invariant.3),
      omega (arith, w, c.loop-i.invariant.4),
      omega (arith, u, v, c.loop-i.invariant.5),
    )

pub overflow_sub-result : goal.overflow_sub-result
overflow_sub-result c =
    omega (
      arith,
      c.loop-i.invariant.5,
      edge-end c.args.s.now c.args.d.now c.args.n c.loop-i.i c.loop-i.at c.requires.1
          c.loop-i-test.false,
    )

pub returns : goal.returns
returns c =
    omega (
      arith,
      c.loop-i.invariant.5,
      edge-end c.args.s.now c.args.d.now c.args.n c.loop-i.i c.loop-i.at c.requires.1
          c.loop-i-test.false,
    )
