-- A refused or an unsettled bitmap is no form; of a settled one the heads tell.
-- Assumes nothing.
use mathlib.Core.Path.{sym, ◌∙◌}
use native.Mathlib.Omega.{arith}
use Rattle.judge.specs.Post.{ReadView}
use Rattle.judge.proofs.Judging.{in-refused, in-accepted}
use Rattle.form_check.proofs.Forms.{form-unsettled, form-refused}
use Rattle.form_check.proofs.Verdict.{many, view-few, view-reads, by_heads}
use Rattle.form_check.proofs.form_in.Goals as goal

pub returns-in_default : goal.returns-in_default
returns-in_default c = form-refused c.args.s.now _ (in-refused ReadView c.args.s.now _ _ c.in_default.ensures)

pub slice_bounds-ds-end : goal.slice_bounds-ds-end
slice_bounds-ds-end c = (in-accepted ReadView c.args.s.now _ _ c.in-Ok.ensures).3.view.long

pub slice_bounds-ds-end-2 : goal.slice_bounds-ds-end-2
slice_bounds-ds-end-2 c =
    let t = in-accepted ReadView c.args.s.now _ _ c.in-Ok.ensures in
    sym (many c.args.s.now _ t.0 _ _ t.3)

pub heads_are-requires : goal.heads_are-requires
heads_are-requires c =
    let t = in-accepted ReadView c.args.s.now _ _ c.in-Ok.ensures in
    (view-few c.args.s.now _ t.0 _ _ t.3, view-reads c.args.s.now _ t.0 _ _ t.3)

pub returns-then-is_settled : goal.returns-then-is_settled
returns-then-is_settled c =
    let t = in-accepted ReadView c.args.s.now _ _ c.in-Ok.ensures in
    by_heads c.args.s.now _ t.0 _ _ t.3 t.1 (λ k. omega (arith, c.type_inv.s k))
    (sym c.is_settled.ensures ∙ c.if-is_settled.true) _ c.heads_are.ensures

pub returns-else-is_settled : goal.returns-else-is_settled
returns-else-is_settled c =
    let t = in-accepted ReadView c.args.s.now _ _ c.in-Ok.ensures in
    c.if-is_settled.false ∙ form-unsettled c.args.s.now _ t.0 _ _ t.1 t.3 (λ k. omega (arith, c.type_inv.s k))
    (sym c.is_settled.ensures ∙ c.if-is_settled.false)
