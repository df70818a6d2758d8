-- A refusal of the schema, then of the bucket; else the answer from its pieces. Assumes nothing.
use mathlib.Core.Path.{refl}
use Rattle.std.proofs.lemmas.Result.{err_from_is_err_and}
use Rattle.row_laws.proofs.Read.{read-refused, read_found}
use Rattle.bucket_parts.proofs.Bodies.{known-columns}
use Rattle.bucket_spec.specs.Bucket.{bucket_field}
use Rattle.buckets.proofs.field.Goals as goal

pub returns-in_err-schema : goal.returns-in_err-schema
unfolding bucket_field
returns-in_err-schema c =
    let r = err_from_is_err_and c.from_residual.result c.from_residual.ensures.1 in
    rw (r.1, r.2, read-refused _ _ c.in_err-schema.ensures)

pub judge-requires : goal.judge-requires
judge-requires c = known-columns (read_found _ _ c.in_ok-schema.ensures)

pub returns-in_err-judged : goal.returns-in_err-judged
unfolding bucket_field
returns-in_err-judged c =
    let r = err_from_is_err_and c.from_residual-in_err-judged.result c.from_residual-in_err-judged.ensures.1 in
    rw (r.1, r.2, (read_found _ _ c.in_ok-schema.ensures).is, ← c.in_err-judged.ensures.says)

pub answer_of-requires : goal.answer_of-requires
answer_of-requires c = (
  known-columns (read_found _ _ c.in_ok-schema.ensures),
  record { rows = refl; has = (c.in_ok-judged.ensures.framed _ refl).has },
)

pub returns : goal.returns
unfolding bucket_field
returns c =
    let known = read_found _ _ c.in_ok-schema.ensures in
    rw (
      known.is,
      ← c.in_ok-judged.ensures.says,
      known.count,
      ← (c.in_ok-judged.ensures.framed _ refl).rows,
    )
    c.answer_of.ensures
