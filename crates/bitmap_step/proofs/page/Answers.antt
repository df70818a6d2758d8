-- The page's answer taken apart: a refusal leaves the listing, else it is the page's.
-- Assumes nothing.
use Rattle.std.proofs.lemmas.Result.{err_from_is_err_and}
use Rattle.bitmap_step.proofs.Stepping.{refuses, gives}
use Rattle.bitmap_step.proofs.page.Goals as goal

pub returns-in_err-p : goal.returns-in_err-p
returns-in_err-p c =
    let p = err_from_is_err_and c.from_residual.result c.from_residual.ensures.1 in
    rw (p.1, p.2) (refuses _ _ _ _ _ c.in_err-p.ensures)

pub returns : goal.returns
returns c = gives _ _ _ _ _ c.in_ok-p.ensures
