-- The seven high bits of each of the eight bytes are tested at once (the law thin-if).
-- Assumes nothing.
use native.Mathlib.Omega.{arith}
use borrow.Author.Tests.{eqb-true}
use Rattle.judge.proofs.Thinning.{thin-if}
use Rattle.judge.proofs.eight_thin.Goals as goal

pub returns : goal.returns
returns c =
    λ e. (
      omega (arith, c.if-n-i-lt8.false),
      thin-if c.args.d.now c.args.i _ (λ k. omega (arith, c.type_inv.d k))
          c.low_word.ensures (eqb-true _ 0 e),
    )
