-- Below half the number is itself; from half on -1 - m is computed, which no width overflows. Assumes nothing.
use mathlib.Core.Path.{sym, ap, subst, ◌∙◌}
use Prim.Native.Nat.{◌-◌}
use lib.IntN.{negsuc}
use mir.Syntax.{w64}
use mir.Val.{SFits}
use mir.Facts.{to_z_pos, to_z-of_z}
use Rattle.row_laws.proofs.TwosComplement.{minus, below, above}
use native.Mathlib.Omega.{arith}
use Rattle.numbers.proofs.signed.Goals as goal

pub overflow_sub-result-else-n-half-3 : goal.overflow_sub-result-else-n-half-3
overflow_sub-result-else-n-half-3 c =
    subst (SFits w64) (sym (minus (c.args.half - 1 - (c.args.n - c.args.half)) (omega arith)))
    (record { sfits = omega arith })

pub returns-then-n-half : goal.returns-then-n-half
returns-then-n-half c = to_z_pos w64 (omega arith) ∙ sym (below c.args.half c.args.n c.if-n-half.true)

pub returns-else-n-half : goal.returns-else-n-half
returns-else-n-half c =
    to_z-of_z (overflow_sub-result-else-n-half-3 c) ∙ minus (c.args.half - 1 - (c.args.n - c.args.half)) (omega arith)
    ∙ ap negsuc (omega arith)
    ∙ sym (above c.args.half c.args.n c.if-n-half.false)
