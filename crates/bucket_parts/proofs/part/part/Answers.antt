-- The starts so far are the first of the array, and the rest of the columns gives the whole. Assumes nothing.
use mathlib.Core.Path.{◌≡◌, sym, ◌∙◌}
use native.Mathlib.Omega.{arith}
use lib.ListN.{take, length-set}
use Rattle.std.proofs.lemmas.Result.{err_from_is_err_and}
use Rattle.bucket_parts.proofs.Alongs.{along-refused, along-more, along-done, put-take}
use Rattle.bucket_parts.proofs.part.part.Goals as goal

pub loop-i-preserved : goal.loop-i-preserved
loop-i-preserved g c = record {
  room = simp length-set c.loop-i.invariant.room;
  rest = λ step steps.
      let e = sym (steps c.loop-i.i _ _ c.loop-i-test.true c.in_ok-at.ensures) in
      rw (put-take c.loop-i.starts c.loop-i.i c.loop-i.at (omega arith))
      (sym (along-more step c.args.n c.loop-i.i c.loop-i.at (take c.loop-i.i c.loop-i.starts) c.loop-i-test.true _ e)
      ∙ c.loop-i.invariant.rest step steps);
}

pub returns-in_err-at : goal.returns-in_err-at
returns-in_err-at g c =
    let r = err_from_is_err_and c.from_residual.result c.from_residual.ensures.1 in
    λ step steps.
    let e = sym (steps c.loop-i.i _ _ c.loop-i-test.true c.in_err-at.ensures) in
    rw (r.1, r.2)
    (sym (along-refused step c.args.n c.loop-i.i c.loop-i.at (take c.loop-i.i c.loop-i.starts) c.loop-i-test.true _ e)
    ∙ c.loop-i.invariant.rest step steps)

pub returns : goal.returns
returns g c =
    λ step steps.
    let z : c.loop-i.i ≡ c.args.n = omega arith in
    rw z at (sym (along-done step c.args.n c.loop-i.i c.loop-i.at (take c.loop-i.i c.loop-i.starts) (omega arith))
    ∙ c.loop-i.invariant.rest step steps)
