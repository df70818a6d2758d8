-- The first bitmap's refusal, the second's, or both sets combined.
-- Assumes nothing.
use mathlib.Core.Path.{sym, ap, ◌∙◌}
use lib.ListN.{length}
use Rattle.std.proofs.lemmas.Result.{err_from_is_err_and}
use Rattle.judge.specs.Post.{SliceView}
use Rattle.judge.proofs.Judging.{in-refused, in-accepted}
use Rattle.judge.proofs.Asking.{cut-length, cut-viewed, cut-view}
use Rattle.pair_write.specs.Sides.{result_of}
use Rattle.bitmap_combine.proofs.Outcomes.{refuses, first-refused, first_found, second-refused, second-found}
use Rattle.bitmap_combine.proofs.combine_in.Goals as goal

pub returns-in_err-x : goal.returns-in_err-x
returns-in_err-x c =
    let p = err_from_is_err_and c.from_residual.result c.from_residual.ensures.1 in
    rw (p.1, p.2) (refuses _ _ c.args.out.now
    (first-refused c.args.o c.args.a.now c.args.b.now _ (length c.args.out.now)
    (in-refused SliceView _ _ _ c.in_err-x.ensures)))

pub returns-in_err-y : goal.returns-in_err-y
returns-in_err-y c =
    let t = in-accepted SliceView _ _ _ c.in_ok-x.ensures in
    let p = err_from_is_err_and c.from_residual-in_err-y.result c.from_residual-in_err-y.ensures.1 in
    rw (p.1, p.2) (first_found c.args.o c.args.a.now c.args.b.now t.0 c.args.out.now _ (length c.args.out.now) _ t.1
    (refuses _ _ c.args.out.now
    (second-refused c.args.o t.0 c.args.b.now c.args.out.now _ (length c.args.out.now)
    (in-refused SliceView _ _ _ c.in_err-y.ensures))))

pub slice_bounds-first-end : goal.slice_bounds-first-end
slice_bounds-first-end c = (in-accepted SliceView _ _ _ c.in_ok-x.ensures).3.long

pub slice_bounds-first-end-2 : goal.slice_bounds-first-end-2
slice_bounds-first-end-2 c =
    let t = in-accepted SliceView _ _ _ c.in_ok-x.ensures in
    sym (cut-length _ _ _ _ _ t.3)

pub slice_bounds-second-end : goal.slice_bounds-second-end
slice_bounds-second-end c = (in-accepted SliceView _ _ _ c.in_ok-y.ensures).3.long

pub slice_bounds-second-end-2 : goal.slice_bounds-second-end-2
slice_bounds-second-end-2 c =
    let u = in-accepted SliceView _ _ _ c.in_ok-y.ensures in
    sym (cut-length _ _ _ _ _ u.3)

pub invariant_of-first : goal.invariant_of-first
invariant_of-first c =
    let t = in-accepted SliceView _ _ _ c.in_ok-x.ensures in record {
      sound = cut-view _ _ _ _ _ t.3;
      counts = t.2 ∙ ap length (sym (cut-viewed _ _ _ _ _ t.3));
    }

pub invariant_of-second : goal.invariant_of-second
invariant_of-second c =
    let u = in-accepted SliceView _ _ _ c.in_ok-y.ensures in record {
      sound = cut-view _ _ _ _ _ u.3;
      counts = u.2 ∙ ap length (sym (cut-viewed _ _ _ _ _ u.3));
    }

pub returns : goal.returns
unfolding result_of
returns c =
    let t = in-accepted SliceView _ _ _ c.in_ok-x.ensures in
    let u = in-accepted SliceView _ _ _ c.in_ok-y.ensures in
    first_found c.args.o c.args.a.now c.args.b.now t.0 c.args.out.now _ (length c.args.out.now) _ t.1
    (second-found c.args.o t.0 c.args.b.now u.0 c.args.out.now _ (length c.args.out.now) _ u.1
    (rw (cut-viewed _ _ _ _ _ t.3, cut-viewed _ _ _ _ _ u.3) at c.put_combined.ensures))
