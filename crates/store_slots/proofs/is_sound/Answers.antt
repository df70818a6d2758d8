-- The definition's two tests, one after the other.
-- Assumes nothing.
use Rattle.store_slots.proofs.Steps.{slots-fail, slots-hold}
use Rattle.store_slots.proofs.is_sound.Goals as goal

pub returns-then-not-slots_ok : goal.returns-then-not-slots_ok
returns-then-not-slots_ok c = slots-fail _ _ _ _ c.slots_ok.ensures (c.if-not-slots_ok.true)

pub returns : goal.returns
returns c =
    slots-hold _ _ _ _ _ c.slots_ok.ensures (c.if-not-slots_ok.false)
    c.all_apart.ensures
