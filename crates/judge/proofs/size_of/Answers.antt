-- By cases on the test, as size_of.
-- Assumes nothing.
use mathlib.Core.Path.{sym}
use Rattle.judge.proofs.Walking.{size-sparse, size-dense}
use Rattle.judge.proofs.size_of.Goals as goal

pub returns-then-d-lt32 : goal.returns-then-d-lt32
returns-then-d-lt32 c = sym (size-sparse c.args.d c.if-d-lt32.true)

pub returns : goal.returns
returns c = sym (size-dense c.args.d c.if-d-lt32.false)
