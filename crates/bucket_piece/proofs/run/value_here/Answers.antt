-- By what the value was read as. Assumes nothing.
use Rattle.std.proofs.Common.{◌≡◌, of_calls}
use Rattle.std.proofs.lemmas.Result.{err_from_is_err_and}
use Rattle.common.specs.Refusal.{outcome}
use Rattle.bucket_spec.specs.Piece.{here_of}
use Rattle.bucket_piece.specs.Stored.{handed}
use Rattle.bucket_piece.proofs.Stored.{on-read, mapped}
use Rattle.bucket_piece.proofs.run.value_here.Goals as goal
use Rattle.bucket_piece.proofs.run.value_here.Goals.{After-map_err}

here : (c : After-map_err) → outcome c.map_err.result ≡ handed c.value_at.result
here c = mapped c.value_at.result c.map_err.result _ (λ f e p. search of_calls) c.map_err.ensures.cases

pub returns-in_err-read : goal.returns-in_err-read
unfolding here_of
returns-in_err-read c =
    let r = err_from_is_err_and c.from_residual.result c.from_residual.ensures.1 in
    let read = here (goal.at.returns-in_err-read c).After-map_err in
    rw (r.1, r.2, on-read, ← c.value_at.ensures, ← read, c.in_err-read.was)

pub returns : goal.returns
unfolding here_of
returns c = rw (on-read, ← c.value_at.ensures, ← here (goal.at.returns c).After-map_err, c.in_ok-read.was)
