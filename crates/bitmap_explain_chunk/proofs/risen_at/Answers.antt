-- Rest invariant: those passed, and those of the rest that rise on, are those of the whole.
-- Assumes nothing.
use native.Mathlib.Omega.{arith}
use Rattle.bitmap_explain_chunk.proofs.Telling.{risen-low, risen-high, risen-on, risen-end}
use Rattle.bitmap_explain_chunk.proofs.risen_at.Goals as goal

pub returns-then-offset-low : goal.returns-then-offset-low
returns-then-offset-low c =
    let z = risen-low c.args.n c.loop-i.low c.args.offsets.now c.loop-i.i c.loop-i-test.true c.if-offset-low.true in
    (omega (arith, z, c.loop-i.invariant), omega arith)

pub returns-then-n-offset : goal.returns-then-n-offset
returns-then-n-offset c =
    let z = risen-high c.args.n c.loop-i.low c.args.offsets.now c.loop-i.i c.loop-i-test.true c.if-offset-low.false
    c.if-n-offset.true in
    (omega (arith, z, c.loop-i.invariant), omega arith)

pub loop-i-preserved : goal.loop-i-preserved
loop-i-preserved c =
    let z = risen-on c.args.n c.loop-i.low c.args.offsets.now c.loop-i.i c.loop-i-test.true c.if-offset-low.false
    c.if-n-offset.false in
    omega (arith, z, c.loop-i.invariant)

pub returns : goal.returns
returns c =
    let z = risen-end c.args.n c.loop-i.low c.args.offsets.now c.loop-i.i c.loop-i-test.false in
    (omega (arith, z, c.loop-i.invariant), omega arith)
