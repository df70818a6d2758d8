-- Three bytes, the lowest first.
-- Assumes nothing.
use mathlib.Core.Path.{sym}
use Rattle.judge.proofs.Judging.{three}
use Rattle.bitmap_explain_walk.proofs.stored.Goals as goal

pub returns : goal.returns
returns c = sym (three c.args.s.now)
