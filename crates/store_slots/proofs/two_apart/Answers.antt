-- Each test is the definition's; start and length are below 2^32, so their sum is exact.
-- Assumes nothing.
use Rattle.store_slots.proofs.Steps.{apart-one, apart-two, apart-before, apart-after}
use Rattle.store_slots.proofs.two_apart.Goals as goal

pub returns-then-m-eq0 : goal.returns-then-m-eq0
returns-then-m-eq0 c =
    apart-one _ _ c.args.j _ c.length_of-m.ensures.0 c.if-m-eq0.true

pub returns-then-n-eq0 : goal.returns-then-n-eq0
returns-then-n-eq0 c =
    apart-two _ _ _ _ c.length_of-m.ensures.0 _ c.length_of-n.ensures.0 c.if-m-eq0.false
    c.if-n-eq0.true

pub returns-then-a-m : goal.returns-then-a-m
returns-then-a-m c =
    apart-before _ _ _ _ c.length_of-m.ensures.0 _ c.length_of-n.ensures.0 c.if-m-eq0.false _ _
    c.start_of-a.ensures.0 c.start_of-b.ensures.0 c.if-n-eq0.false c.if-a-m.true

pub returns : goal.returns
returns c =
    apart-after _ _ _ _ c.length_of-m.ensures.0 _ c.length_of-n.ensures.0 c.if-m-eq0.false _ _
    c.start_of-a.ensures.0 c.start_of-b.ensures.0 c.if-n-eq0.false c.if-a-m.false
