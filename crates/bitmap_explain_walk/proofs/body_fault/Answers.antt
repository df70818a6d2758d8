-- 9, 10 and 11 in the definition's order; the members counted are all, where all containers are well formed.
-- Assumes nothing.
use mathlib.Core.Path.{sym, ap, ◌∙◌}
use lib.ListN.{take}
use Rattle.std.proofs.lemmas.Result.{err_from_is_err_and}
use Rattle.bitmap_explain_spec.specs.Explain.{faulty}
use Rattle.bitmap_explain_walk.proofs.Walking.{body9, body10, body11, body_ok}
use Rattle.bitmap_explain_walk.proofs.body_fault.Goals as goal

pub returns-then-at-total : goal.returns-then-at-total
returns-then-at-total c =
    rw c.fault_of_whole.ensures
    (body9 c.args.s.now (take c.args.n c.args.d.now) c.args.at _ c.sizes-total.ensures.0
    (λ q. c.if-at-total.true (rw c.sizes-total.ensures.0 q)))

pub returns-in_err-members : goal.returns-in_err-members
returns-in_err-members c =
    let p = err_from_is_err_and c.from_residual.result c.from_residual.ensures.1 in
    rw (p.1, p.2)
    (body10 c.args.s.now (take c.args.n c.args.d.now) c.args.at (rw (← c.sizes-total.ensures.0) c.if-at-total.false)
    c.in_err-members.ensures.0 ∙ ap faulty (sym c.in_err-members.ensures.1))

pub returns-then-said-members : goal.returns-then-said-members
returns-then-said-members c =
    rw (c.fault_of_whole-then-said-members.ensures, c.stored-said.ensures)
    (body11 c.args.s.now (take c.args.n c.args.d.now) c.args.at (rw (← c.sizes-total.ensures.0) c.if-at-total.false)
    c.in_ok-members.ensures.0 _ c.in_ok-members.ensures.1 (λ q. c.if-said-members.true (c.stored-said.ensures ∙ q)))

pub returns : goal.returns
returns c = (
  _,
  body_ok c.args.s.now (take c.args.n c.args.d.now) c.args.at (rw (← c.sizes-total.ensures.0) c.if-at-total.false)
      c.in_ok-members.ensures.0 _ c.in_ok-members.ensures.1 (sym c.stored-said.ensures ∙ c.if-said-members.false),
)
