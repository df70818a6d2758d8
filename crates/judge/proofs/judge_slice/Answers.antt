-- The view of containers is a part of the view that was read.
-- Assumes nothing.
use Rattle.judge.proofs.Judging.{seen-slice}
use Rattle.judge.proofs.judge_slice.Goals as goal

pub returns : goal.returns
returns c = seen-slice _ _ _ c.judge_read.ensures
