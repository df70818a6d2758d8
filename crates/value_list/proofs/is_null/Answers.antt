-- With null bits, whether the bit is 1; without, nothing is null. Assumes nothing.
use Rattle.value_list.proofs.is_null.Goals as goal

pub returns-in-Some : goal.returns-in-Some
returns-in-Some c = rw (c.in-Some.is, ← c.bit_at.ensures.0)
