-- The first number, then the second. Assumes nothing.
use Rattle.std.proofs.lemmas.Result.{err_from_is_err_and}
use Rattle.bucket_spec.specs.Bucket.{tags_at}
use Rattle.bucket_parts.proofs.whole.tags_at.Goals as goal

pub returns-in_err-at : goal.returns-in_err-at
unfolding tags_at
returns-in_err-at c =
    let r = err_from_is_err_and c.from_residual.result c.from_residual.ensures.1 in
    rw (r.1, r.2, ← c.in_err-at.ensures)

pub returns : goal.returns
unfolding tags_at
returns c = rw (← c.in_ok-at.ensures) c.head_number-2.ensures
