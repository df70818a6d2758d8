-- A column of fixed width makes the span longer; any other ends it. Assumes nothing.
use Prim.Native.Nat.{◌/◌}
use borrow.Author.Tests.{lt-ltb, le-ltb}
use Rattle.row_codes.specs.Codes.{longer}
use native.Mathlib.Omega.{arith}
use Rattle.row_codes.proofs.longer_span.Goals as goal

pub returns-then-k-eq0 : goal.returns-then-k-eq0
unfolding longer
returns-then-k-eq0 c = rw (le-ltb 0 (c.args.c / 2) (omega arith))

pub returns-then-k-gt8 : goal.returns-then-k-gt8
unfolding longer
returns-then-k-gt8 c =
    rw (lt-ltb 0 (c.args.c / 2) (omega arith), le-ltb (c.args.c / 2) 9 (omega arith))

pub returns : goal.returns
unfolding longer
returns c =
    rw (lt-ltb 0 (c.args.c / 2) (omega arith), lt-ltb (c.args.c / 2) 9 (omega arith))
