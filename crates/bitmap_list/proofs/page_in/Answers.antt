-- The judgement's refusal; a finished listing as it was; or the page that list_from fills, whose mark is the law mark.
-- Assumes nothing.
use Rattle.std.proofs.lemmas.Result.{err_from_is_err_and}
use Rattle.bitmap_list.proofs.Answers.{refuses, stays, gives}
use Rattle.bitmap_list.proofs.page_in.Goals as goal

pub returns-in_err-set : goal.returns-in_err-set
returns-in_err-set c =
    let p = err_from_is_err_and c.from_residual.result c.from_residual.ensures.1 in
    rw (p.1, p.2) (refuses _ _ _ _ c.in_err-set.ensures)

pub returns-then-at : goal.returns-then-at
returns-then-at c = stays _ _ _ _ c.in_ok-set.ensures c.if-at.true

pub returns : goal.returns
returns c = gives _ _ _ _ c.in_ok-set.ensures _ _ c.if-at.false c.list_from-run.ensures
