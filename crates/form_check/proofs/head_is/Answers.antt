-- The least, the width, the number of exceptions and the second width, in this order.
-- Assumes nothing.
use mathlib.Core.Path.{◌∙◌}
use Rattle.form_check.proofs.Compare.{other-least, flat, other_width, by-exceptions}
use Rattle.form_check.proofs.head_is.Goals as goal

pub returns-then-h-m : goal.returns-then-h-m
returns-then-h-m c =
    other-least c.args.h c.args.ds.now c.least_of-m.result c.least_of-m.ensures c.if-h-m.true

pub returns-then-w-eq0 : goal.returns-then-w-eq0
returns-then-w-eq0 c =
    c.is_flat.ensures
    ∙ flat c.args.h c.args.ds.now c.least_of-m.result c.least_of-m.ensures c.if-h-m.false c.largest_width-w.result
    c.largest_width-w.ensures.0
    c.if-w-eq0.true

pub returns-then-h-b : goal.returns-then-h-b
returns-then-h-b c =
    other_width c.args.h c.args.ds.now c.least_of-m.result c.least_of-m.ensures c.if-h-m.false c.largest_width-w.result c.largest_width-w.ensures.0 c.cheapest_at-b.result
    c.cheapest_at-b.ensures.0
    c.if-h-b.true

pub returns : goal.returns
returns c =
    c.exceptions_are.ensures
    ∙ by-exceptions c.args.h c.args.ds.now c.least_of-m.result c.least_of-m.ensures c.if-h-m.false c.largest_width-w.result c.largest_width-w.ensures.0 c.cheapest_at-b.result
    c.cheapest_at-b.ensures.0 c.wider_of-e.result c.if-h-b.false c.wider_of-e.ensures.0
