-- A refusal of the schema, then of the bucket; else it is sound. Assumes nothing.
use Rattle.std.proofs.lemmas.Result.{err_from_is_err_and}
use Rattle.row_laws.proofs.Read.{read-refused, read_found}
use Rattle.bucket_parts.proofs.Bodies.{known-columns}
use Rattle.bucket_spec.specs.Bucket.{bucket_refusal}
use Rattle.buckets.proofs.check.Goals as goal

pub returns-in_err-schema : goal.returns-in_err-schema
unfolding bucket_refusal
returns-in_err-schema c =
    let r = err_from_is_err_and c.from_residual.result c.from_residual.ensures.1 in
    rw (r.1, r.2, read-refused _ _ c.in_err-schema.ensures)

pub judge-requires : goal.judge-requires
judge-requires c = known-columns (read_found _ _ c.in_ok-schema.ensures)

pub returns-in_err-judge : goal.returns-in_err-judge
unfolding bucket_refusal
returns-in_err-judge c =
    let r = err_from_is_err_and c.from_residual-in_err-judge.result c.from_residual-in_err-judge.ensures.1 in
    rw (r.1, r.2, (read_found _ _ c.in_ok-schema.ensures).is, ← c.in_err-judge.ensures.says)

pub returns : goal.returns
unfolding bucket_refusal
returns c = rw ((read_found _ _ c.in_ok-schema.ensures).is, ← c.in_ok-judge.ensures.says)
