-- Bytes seen to be 0 where eight descriptors are left; where none is left, all are 0.
-- Assumes nothing.
use native.Mathlib.Omega.{arith}
use Rattle.pair_write.proofs.Skipping.{desc-word, desc-beyond}
use Rattle.pair_write.proofs.empty_run.Goals as goal

pub returns-then-i-d : goal.returns-then-i-d
returns-then-i-d c = (c.empty_bytes.ensures.0, desc-word _ _ _ c.empty_bytes.ensures.1)

pub returns-then-d-i : goal.returns-then-d-i
returns-then-d-i c = (omega arith, λ j l. desc-beyond _ _ j c.if-d-i.true)
