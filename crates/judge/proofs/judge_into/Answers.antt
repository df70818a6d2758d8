-- Any header's descriptors fit an array of 8,192, so the view is one of that array.
-- Assumes nothing.
use native.Mathlib.Omega.{arith}
use Rattle.judge.proofs.Judging.{in_array}
use Rattle.judge.proofs.judge_into.Goals as goal

pub returns : goal.returns
returns c = in_array _ _ _ (omega (arith, c.judge_slice.auto.d)) c.judge_slice.ensures
