-- Behind its length an entry is nothing, or a form.
-- Assumes nothing.
use mathlib.Core.Path.{sym, ◌∙◌}
use native.Mathlib.Omega.{arith}
use Rattle.store_load.proofs.Steps.{frame-bad, frame, form-bad, none-good, form-good, take-bad}
use Rattle.store_load.proofs.take_entry.Goals as goal

pub returns-in_err-entry : goal.returns-in_err-entry
returns-in_err-entry c = rw c.from_residual.ensures (take-bad _ _ (frame-bad _ _ c.in_err-entry.ensures))

pub returns-then-entry-eq0 : goal.returns-then-entry-eq0
returns-then-entry-eq0 c =
    let f = frame _ _ _ c.in_ok-entry.ensures in
    none-good _ _ _ _ f.0 f.1 c.if-entry-eq0.true

pub overflow_add-end : goal.overflow_add-end
overflow_add-end c =
    let f = frame _ _ _ c.in_ok-entry.ensures in
    omega (arith, f.1)

pub slice_bounds-is_form-end : goal.slice_bounds-is_form-end
slice_bounds-is_form-end c =
    let f = frame _ _ _ c.in_ok-entry.ensures in
    omega (arith, f.1)

pub returns-then-not-is_form : goal.returns-then-not-is_form
returns-then-not-is_form c =
    let f = frame _ _ _ c.in_ok-entry.ensures in
    form-bad _ _ _ _ f.0 f.1 c.if-entry-eq0.false (sym c.if-not-is_form.true ∙ c.is_form.ensures)

pub returns : goal.returns
returns c =
    let f = frame _ _ _ c.in_ok-entry.ensures in
    form-good _ _ _ _ f.0 f.1 c.if-entry-eq0.false (sym c.if-not-is_form.false ∙ c.is_form.ensures)
