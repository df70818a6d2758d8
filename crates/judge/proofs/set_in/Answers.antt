-- The judgement's refusal, or the set that it lends a view of.
-- Assumes nothing.
use mathlib.Core.Path.{sym, ap, ◌∙◌}
use lib.ListN.{length}
use Rattle.common.specs.Outcome.{found}
use Rattle.std.proofs.lemmas.Result.{err_from_is_err_and}
use Rattle.judge.specs.Post.{SliceView}
use Rattle.judge.proofs.Judging.{in-refused, in-accepted}
use Rattle.judge.proofs.Asking.{cut-length, cut-viewed, cut-view}
use Rattle.judge.proofs.set_in.Goals as goal

pub returns-in_err-a : goal.returns-in_err-a
returns-in_err-a c =
    let p = err_from_is_err_and c.from_residual.result c.from_residual.ensures.1 in
    rw (p.1, p.2) (in-refused SliceView _ _ _ c.in_err-a.ensures)

pub slice_bounds-result-end : goal.slice_bounds-result-end
slice_bounds-result-end c =
    let t = in-accepted SliceView _ _ _ c.in_ok-a.ensures in
    sym (cut-length _ _ _ _ _ t.3)

pub invariant_of-result : goal.invariant_of-result
invariant_of-result c =
    let t = in-accepted SliceView _ _ _ c.in_ok-a.ensures in record {
      sound = cut-view _ _ _ _ _ t.3;
      counts = t.2 ∙ ap length (sym (cut-viewed _ _ _ _ _ t.3));
    }

pub returns : goal.returns
returns c =
    let t = in-accepted SliceView _ _ _ c.in_ok-a.ensures in
    t.1 ∙ ap found (sym (cut-viewed _ _ _ _ _ t.3))
