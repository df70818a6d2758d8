-- By the values before it, then by the value there. Assumes nothing.
use Rattle.std.proofs.lemmas.Result.{err_from_is_err_and}
use Rattle.bucket_spec.specs.Piece.{nth}
use Rattle.bucket_piece.proofs.run.nth_value.Goals as goal

pub returns-in_err-values_end : goal.returns-in_err-values_end
unfolding nth
returns-in_err-values_end c =
    let r = err_from_is_err_and c.from_residual.result c.from_residual.ensures.1 in
    rw (r.1, r.2, ← c.in_err-values_end.ensures)

pub returns : goal.returns
unfolding nth
returns c = rw (← c.in_ok-values_end.ensures) c.value_here.ensures
