-- Rest invariant: the walk over the containers that are left, with the members counted so far, is the whole walk.
-- Assumes nothing.
use mathlib.Core.Path.{◌≡◌, sym, ◌∙◌}
use native.Mathlib.Omega.{arith}
use Rattle.std.proofs.lemmas.Result.{err_from_is_err_and}
use Rattle.common.specs.declared.Refusal.TheVariants.{Container}
use Rattle.judge.proofs.Walking.{sum-cons, walk-bad, walk-good, walk_end}
use Rattle.judge.proofs.walk_each.Goals as goal

pub container_at-requires : goal.container_at-requires
container_at-requires c =
    omega (arith, sum-cons c.args.d.now c.args.n c.loop-i.i c.requires.1 c.loop-i-test.true)

pub returns-in_err-card : goal.returns-in_err-card
returns-in_err-card c =
    let p = err_from_is_err_and c.from_residual.result c.from_residual.ensures.1 in
    let none = c.in_err-card.ensures.ok_part in
    let is : c.in_err-card.field-0.0 ≡ Container = let e = rw none at c.in_err-card.ensures.value in cc in
    rw (p.1, p.2, is)
    (sym
    (sym c.loop-i.invariant.3 ∙ walk-bad c.args.d.now c.args.n c.loop-i.i c.requires.1 c.args.s.now c.loop-i.at
    c.loop-i.card c.loop-i-test.true (rw none at c.container_at.ensures)))

pub overflow_add-at : goal.overflow_add-at
overflow_add-at c =
    omega (arith, c.size_of.ensures, sum-cons c.args.d.now c.args.n c.loop-i.i c.requires.1 c.loop-i-test.true)

pub loop-i-preserved : goal.loop-i-preserved
loop-i-preserved c =
    let held = rw c.in_ok-card.ensures.ok_part at c.container_at.ensures in
    let good = walk-good c.args.d.now c.args.n c.loop-i.i c.requires.1 c.args.s.now c.loop-i.at c.loop-i.card
    c.loop-i-test.true held.0 in (
      omega arith,
      omega (arith, held.2),
      omega (arith, c.size_of.ensures, sum-cons c.args.d.now c.args.n c.loop-i.i c.requires.1 c.loop-i-test.true),
      rw (c.size_of.ensures, held.1) (sym good ∙ c.loop-i.invariant.3),
    )

pub returns : goal.returns
returns c =
    sym
    (walk_end c.args.d.now c.args.n c.loop-i.i c.requires.1 c.args.s.now c.loop-i.at c.loop-i.card c.loop-i-test.false)
    ∙ c.loop-i.invariant.3
