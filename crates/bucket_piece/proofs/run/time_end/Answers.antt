-- Room, then the nanoseconds. Assumes nothing.
use Rattle.bucket_piece.proofs.Stored.{time-cut, time-bad, time-over}
use mathlib.Core.Path.{sym, ◌∙◌}
use native.Mathlib.Omega.{arith}
use Rattle.bucket_piece.proofs.run.time_end.Goals as goal

pub returns-then-not-has : goal.returns-then-not-has
returns-then-not-has c =
    sym (time-cut c.args.s.now c.args.p (sym c.has.ensures ∙ c.if-not-has.true))

pub returns-then-big_endian-gt999999 : goal.returns-then-big_endian-gt999999
returns-then-big_endian-gt999999 c =
    sym
    (time-bad c.args.s.now c.args.p (sym c.has.ensures ∙ c.if-not-has.false)
    (omega (arith, c.big_endian.ensures.0)))

pub returns : goal.returns
returns c =
    sym
    (time-over c.args.s.now c.args.p (sym c.has.ensures ∙ c.if-not-has.false)
    (omega (arith, c.big_endian.ensures.0)))
