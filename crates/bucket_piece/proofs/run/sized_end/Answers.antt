-- A length of one byte is the definition's; any other goes by the varint. Assumes nothing.
use Rattle.bucket_piece.proofs.Stored.{on-number, sized-one, sized-short}
use Rattle.std.proofs.lemmas.Result.{err_from_is_err_and}
use mathlib.Core.Path.{sym, ◌∙◌}
use native.Mathlib.Omega.{arith}
use Rattle.bucket_piece.proofs.run.sized_end.Goals as goal

pub returns-then-b-lt128 : goal.returns-then-b-lt128
returns-then-b-lt128 c =
    sym
    (sized-short c.args.s.now c.args.least c.args.p c.if-p-s.true (omega (arith, c.wide-b.ensures.0)) ∙ rw
    (← c.wide-b.ensures.0) (sym c.sized_next.ensures))

pub returns-in_err-length : goal.returns-in_err-length
returns-in_err-length c =
    let r = err_from_is_err_and c.from_residual.result c.from_residual.ensures.1 in
    rw (r.1, r.2, sized-one c.args.s.now c.args.least c.args.p, on-number, ← c.in_err-length.ensures)

pub returns : goal.returns
returns c =
    rw (sized-one c.args.s.now c.args.least c.args.p, on-number, ← c.in_ok-length.ensures) c.sized_next-2.ensures
