-- By the tests, in the order of the definition; a body that was read is the bucket's. Assumes nothing.
use mathlib.Core.Logic.{inl, inr}
use native.Mathlib.Omega.{arith}
use Rattle.std.proofs.lemmas.Result.{err_from_is_err_and}
use Rattle.bucket_parts.proofs.Bodies.{bucket-long, bucket-rows, bucket-head, bucket-body}
use Rattle.bucket_parts.proofs.whole.judge.Goals as goal

pub returns-then-s-gt16777216 : goal.returns-then-s-gt16777216
returns-then-s-gt16777216 c = elim c.then-s-gt16777216.either [
  | inl long ↦ bucket-long _ c.requires _ _ long
  | inr many ↦ bucket-rows _ c.requires _ _ many.0 many.1
]

pub returns-in_err-tags : goal.returns-in_err-tags
returns-in_err-tags c =
    let r = err_from_is_err_and c.from_residual.result c.from_residual.ensures.1 in
    rw (r.1, r.2)
    (bucket-head _ c.requires _ _ c.if-s-gt16777216.false c.if-rows-gt65536.false _ c.in_err-tags.ensures)

pub returns : goal.returns
returns c =
    bucket-body _ c.requires _ _ (omega arith) (omega arith) _ c.in_ok-tags.ensures c.judge_body.result
    c.judge_body.ensures
