-- An accepted bitmap has no fault; of a refused one the second walk tells it.
-- Assumes nothing.
use Rattle.judge.specs.Post.{SliceView}
use Rattle.judge.proofs.Judging.{in-accepted}
use Rattle.bitmap_explain.proofs.Telling.{accepted-told}
use Rattle.bitmap_explain.proofs.explain_in.Goals as goal

pub returns-in-Ok : goal.returns-in-Ok
returns-in-Ok c =
    let t = in-accepted SliceView _ _ _ c.in-Ok.ensures in
    accepted-told c.args.s.now t.0 t.1
