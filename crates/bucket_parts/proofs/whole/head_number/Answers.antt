-- By what the number was read as, then by its value. Assumes nothing.
use borrow.Author.Tests.{eq-eqb, ne_eqb}
use Rattle.common.specs.Outcome.{need}
use Rattle.bucket_spec.specs.Bucket.{head_number}
use Rattle.bucket_parts.proofs.whole.head_number.Goals as goal

pub returns-in-Ok : goal.returns-in-Ok
unfolding head_number need
returns-in-Ok c = rw (← c.in-Ok.ensures, eq-eqb _ _ c.if-read-k.true)

pub returns-in-Ok-2 : goal.returns-in-Ok-2
unfolding head_number need
returns-in-Ok-2 c = rw (← c.in-Ok.ensures, ne_eqb _ _ c.if-read-k.false)

pub returns-in-Err-IllFormed : goal.returns-in-Err-IllFormed
unfolding head_number
returns-in-Err-IllFormed c = rw (← c.varint.ensures, c.in-Err-IllFormed.is, c.in-Err-IllFormed.field-0-is)

pub returns-in-Err-CutShort : goal.returns-in-Err-CutShort
unfolding head_number
returns-in-Err-CutShort c = rw (← c.varint.ensures, c.in-Err-CutShort.is, c.in-Err-CutShort.field-0-is)
