-- Each test is the definition's; start and length are below 2^32, so their sum is exact.
-- Assumes nothing.
use Rattle.store_slots.proofs.Steps.{ok-empty, ok-outside, ok-inside}
use mathlib.Core.Path.{◌∙◌}
use Rattle.store_slots.proofs.slot_ok.Goals as goal

pub returns-then-n-eq0 : goal.returns-then-n-eq0
returns-then-n-eq0 c =
    ok-empty _ c.args.buf.now _ _ c.length_of-n.ensures.0 c.if-n-eq0.true

pub returns-then-buf-e : goal.returns-then-buf-e
returns-then-buf-e c =
    ok-outside _ _ _ _ c.length_of-n.ensures.0 c.start_of-a.result c.start_of-a.ensures.0 c.if-n-eq0.false
    c.if-buf-e.true

pub returns : goal.returns
returns c =
    c.is_form.ensures ∙ ok-inside _ _ _ _ c.length_of-n.ensures.0 c.start_of-a.result c.start_of-a.ensures.0
    c.if-n-eq0.false c.if-buf-e.false
