-- Rest invariant: the containers passed, and those of the rest that are well formed, are those of the whole; so is the
-- walk over the rest, with the members counted so far.
-- Assumes nothing.
use mathlib.Core.Path.{sym, ◌∙◌}
use native.Mathlib.Omega.{arith}
use lib.ListN.{take}
use Rattle.judge.proofs.Walking.{sum-cons, walk-bad, walk-good, walk_end}
use Rattle.bitmap_explain_walk.proofs.Walking.{well-bad, well-good, stopped, passed}
use Rattle.bitmap_explain_walk.proofs.containers_fault.Goals as goal

pub container_at-requires : goal.container_at-requires
container_at-requires c =
    omega (arith, sum-cons c.args.d.now c.args.n c.loop-i.i c.requires.1 c.loop-i-test.true, c.loop-i.invariant.ends)

pub returns-in-None : goal.returns-in-None
returns-in-None c =
    let z = well-bad c.args.s.now c.args.d.now c.args.n c.loop-i.i c.loop-i.at c.requires.1 c.loop-i-test.true c.in-None.ensures in
    let stop = walk-bad c.args.d.now c.args.n c.loop-i.i c.requires.1 c.args.s.now c.loop-i.at c.loop-i.members
    c.loop-i-test.true c.in-None.ensures in
    rw c.fault_of_part.ensures
    (stopped c.args.s.now (take c.args.n c.args.d.now) c.args.from c.loop-i.i c.loop-i.at c.requires.2
    c.loop-i.invariant.ends (omega (arith, z, c.loop-i.invariant.well)) (sym c.loop-i.invariant.walks ∙ stop))

pub overflow_add-at : goal.overflow_add-at
overflow_add-at c =
    let sizes = sum-cons c.args.d.now c.args.n c.loop-i.i c.requires.1 c.loop-i-test.true in
    omega (arith, c.size_of-at.ensures, sizes, c.loop-i.invariant.ends)

pub loop-i-preserved : goal.loop-i-preserved
loop-i-preserved c =
    let held = c.in-Some.ensures in
    let z = well-good c.args.s.now c.args.d.now c.args.n c.loop-i.i c.loop-i.at c.requires.1 c.loop-i-test.true held.0 in
    let on = walk-good c.args.d.now c.args.n c.loop-i.i c.requires.1 c.args.s.now c.loop-i.at c.loop-i.members
    c.loop-i-test.true held.0 in
    let sizes = sum-cons c.args.d.now c.args.n c.loop-i.i c.requires.1 c.loop-i-test.true in record {
      few = omega (arith, held.2, c.loop-i.invariant.few);
      ends = omega (arith, c.size_of-at.ensures, sizes, c.loop-i.invariant.ends);
      well = rw c.size_of-at.ensures (omega (arith, z, c.loop-i.invariant.well));
      walks = rw (c.size_of-at.ensures, held.1) (sym on ∙ c.loop-i.invariant.walks);
    }

pub returns : goal.returns
returns c =
    let end = walk_end c.args.d.now c.args.n c.loop-i.i c.requires.1 c.args.s.now c.loop-i.at c.loop-i.members
    c.loop-i-test.false in
    passed c.args.s.now (take c.args.n c.args.d.now) c.args.from c.loop-i.members (sym c.loop-i.invariant.walks ∙ end)
