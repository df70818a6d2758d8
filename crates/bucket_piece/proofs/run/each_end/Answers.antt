-- The rest of the values gives the whole. Assumes nothing.
use mathlib.Core.Path.{sym, ◌∙◌}
use Rattle.std.proofs.lemmas.Result.{err_from_is_err_and}
use Rattle.bucket_piece.proofs.Stored.{stored_refused, stored_more, stored-done}
use Rattle.bucket_piece.proofs.run.each_end.Goals as goal

pub loop-preserved : goal.loop-preserved
loop-preserved g c =
    λ s st ends.
    sym (stored_more s st c.args.n c.loop.counter c.loop.p c.loop-test.true _ (sym (ends _ _ c.in_ok-p.ensures)))
    ∙ c.loop.invariant s st ends

pub returns-in_err-p : goal.returns-in_err-p
returns-in_err-p g c =
    let r = err_from_is_err_and c.from_residual.result c.from_residual.ensures.1 in
    λ s st ends.
    rw (r.1, r.2)
    (sym (stored_refused s st c.args.n c.loop.counter c.loop.p c.loop-test.true _ (sym (ends _ _ c.in_err-p.ensures)))
    ∙ c.loop.invariant s st ends)

pub returns : goal.returns
returns g c =
    λ s st ends.
    sym (stored-done s st c.args.n c.loop.counter c.loop.p c.loop-test.false) ∙ c.loop.invariant s st ends
