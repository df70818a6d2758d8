-- The heads from each chunk on, with those before it found right, are all heads; what is left was read as chunks.
-- Assumes nothing.
use mathlib.Core.Path.{refl, sym, ◌∙◌}
use native.Mathlib.Omega.{arith}
use Rattle.form_check.proofs.Walks.{left-start, front-next, front-stop, front-go, heads_none, next-is, next-in, parts-few}
use Rattle.form_check.proofs.heads_are.Goals as goal

pub loop-chunk-init : goal.loop-chunk-init
loop-chunk-init c =
    let items = c.chunks-chunk-items.ensures in
    rw (c.into_iter-chunk-iterator.ensures.into_iter_gives, items.rest, items.size)
    (refl, left-start c.args.s.now c.args.ds.now c.requires.1, refl)

pub head_at-h-requires : goal.head_at-h-requires
head_at-h-requires c =
    let step = c.in-Some.ensures.steps.1 in
    let long = rw c.loop-chunk.invariant.0 at step.1 in
    let on = front-next c.args.s.now _ _ _ c.loop-chunk.at step.0 long step.2 c.loop-chunk.invariant.1 in
    (on.0.starts, omega (arith, long))

pub returns-then-not-head_is : goal.returns-then-not-head_is
returns-then-not-head_is c =
    let step = c.in-Some.ensures.steps.1 in
    let long = rw c.loop-chunk.invariant.0 at step.1 in
    let fails = sym c.head_is.ensures ∙ c.if-not-head_is.true in
    sym (front-stop c.args.s.now _ _ _ c.loop-chunk.at step.0 long step.2 c.head_at-h.result c.head_at-h.ensures.0 fails)
    ∙ c.loop-chunk.invariant.2

pub overflow_mul-at : goal.overflow_mul-at
overflow_mul-at c =
    let step = c.in-Some.ensures.steps.1 in
    let long = rw c.loop-chunk.invariant.0 at step.1 in
    let on = front-next c.args.s.now _ _ _ c.loop-chunk.at step.0 long step.2 c.loop-chunk.invariant.1 in
    omega (arith, parts-few c.args.s.now c.loop-chunk.at _ on.0 c.head_at-h.result c.head_at-h.ensures.0 c.head_at-h.ensures.1)

pub overflow_add-at-in-loop-chunk : goal.overflow_add-at-in-loop-chunk
overflow_add-at-in-loop-chunk c =
    let step = c.in-Some.ensures.steps.1 in
    let long = rw c.loop-chunk.invariant.0 at step.1 in
    let on = front-next c.args.s.now _ _ _ c.loop-chunk.at step.0 long step.2 c.loop-chunk.invariant.1 in
    omega (arith, next-in c.args.s.now c.loop-chunk.at _ on.0 c.head_at-h.result c.head_at-h.ensures.0)

pub loop-chunk-preserved : goal.loop-chunk-preserved
loop-chunk-preserved c =
    let step = c.in-Some.ensures.steps.1 in
    let long = rw c.loop-chunk.invariant.0 at step.1 in
    let on = front-next c.args.s.now _ _ _ c.loop-chunk.at step.0 long step.2 c.loop-chunk.invariant.1 in
    let is = next-is c.args.s.now c.loop-chunk.at _ on.0 c.head_at-h.result c.head_at-h.ensures.0 in
    let holds = sym c.head_is.ensures ∙ c.if-not-head_is.false in
    let go = front-go c.args.s.now _ _ _ c.loop-chunk.at step.0 long step.2 c.head_at-h.result c.head_at-h.ensures.0 holds in
    (c.in-Some.ensures.steps.0 ∙ c.loop-chunk.invariant.0, rw is on.1, rw is (go ∙ c.loop-chunk.invariant.2))

pub returns : goal.returns
returns c =
    let none = c.in-None.ensures.steps.1.0 in
    sym (heads_none c.args.s.now _ c.loop-chunk.at none) ∙ c.loop-chunk.invariant.2
