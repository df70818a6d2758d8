-- The largest tells whether one is over 32.
-- Assumes nothing.
use native.Mathlib.Omega.{arith}
use Rattle.form_check.proofs.Settled.{settled-not, settled-none, settled-last}
use Rattle.form_check.proofs.is_settled.Goals as goal

pub returns-then-largest_of-gt32 : goal.returns-then-largest_of-gt32
returns-then-largest_of-gt32 c =
    settled-not c.args.ds.now (omega (arith, c.largest_of.ensures, c.if-largest_of-gt32.true))

pub returns-then-n-eq0 : goal.returns-then-n-eq0
returns-then-n-eq0 c =
    settled-none c.args.ds.now (omega (arith, c.largest_of.ensures, c.if-largest_of-gt32.false)) c.if-n-eq0.true

pub returns : goal.returns
returns c =
    settled-last c.args.ds.now (omega (arith, c.largest_of.ensures, c.if-largest_of-gt32.false))
    c.if-n-eq0.false
