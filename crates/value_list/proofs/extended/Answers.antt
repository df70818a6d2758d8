-- Below half the number is itself; from half on it lacks 2 * half, which 64 bits add up to. Assumes nothing.
use Rattle.row_laws.proofs.TwosComplement.{unsigned-below, unsigned-above}
use mathlib.Core.Path.{sym, ◌∙◌}
use native.Mathlib.Omega.{arith}
use Rattle.value_list.proofs.extended.Goals as goal

pub returns-then-n-half : goal.returns-then-n-half
returns-then-n-half c = sym (unsigned-below c.args.half c.args.n c.if-n-half.true)

pub returns : goal.returns
returns c =
    sym (unsigned-above c.args.half c.args.n c.if-n-half.false (omega arith) (omega arith) ∙ omega arith)
