-- 9, 10 and 11 in the definition's order; the walk's count is the number of members.
-- Assumes nothing.
use lib.ListN.{take}
use mathlib.Core.Path.{sym, ◌∙◌}
use Rattle.std.proofs.lemmas.Result.{err_from_is_err_and}
use Rattle.judge.proofs.Judging.{three, body9, body10, body11, body_ok}
use Rattle.judge.proofs.judge_body.Goals as goal

pub returns-then-at-total : goal.returns-then-at-total
returns-then-at-total c =
    sym (body9 c.args.s.now (take c.args.n c.args.d.now) c.args.at (λ q. c.if-at-total.true (rw c.sizes-total.ensures.0 q)))

pub returns-in_err-card : goal.returns-in_err-card
returns-in_err-card c =
    let p = err_from_is_err_and c.from_residual.result c.from_residual.ensures.1 in
    rw (p.1, p.2)
    (sym
    (body10 c.args.s.now (take c.args.n c.args.d.now) c.args.at (rw (← c.sizes-total.ensures.0) c.if-at-total.false)
    _ (sym c.in_err-card.ensures)))

pub returns-then-stored-card : goal.returns-then-stored-card
returns-then-stored-card c =
    sym
    (body11 c.args.s.now (take c.args.n c.args.d.now) c.args.at (rw (← c.sizes-total.ensures.0) c.if-at-total.false)
    _ (sym c.in_ok-card.ensures) (λ q. c.if-stored-card.true (sym (three c.args.s.now) ∙ q)))

pub returns : goal.returns
returns c =
    sym
    (body_ok c.args.s.now (take c.args.n c.args.d.now) c.args.at (rw (← c.sizes-total.ensures.0) c.if-at-total.false)
    _ (sym c.in_ok-card.ensures) (three c.args.s.now ∙ c.if-stored-card.false))
