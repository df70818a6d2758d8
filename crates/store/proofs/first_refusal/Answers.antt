-- One case for each refusal, in their order.
-- Assumes nothing.
use Rattle.store.proofs.Owner.{first-40, first-44, first-42, first-none}
use Rattle.store.proofs.first_refusal.Goals as goal

pub returns-then-slot-gt63 : goal.returns-then-slot-gt63
returns-then-slot-gt63 c = first-40 _ _ _ c.if-slot-gt63.true

pub returns-then-slot-owner : goal.returns-then-slot-owner
returns-then-slot-owner c = first-44 _ _ _ c.if-slot-gt63.false c.if-slot-owner.true

pub returns-then-numbers-ne128 : goal.returns-then-numbers-ne128
returns-then-numbers-ne128 c = first-42 _ _ _ c.if-slot-gt63.false c.if-slot-owner.false c.if-numbers-ne128.true

pub returns : goal.returns
returns c = first-none _ _ _ c.if-slot-gt63.false c.if-slot-owner.false c.if-numbers-ne128.false
