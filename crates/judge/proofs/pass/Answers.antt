-- Eight of no or one member rise; one is looked at.
-- Assumes nothing.
use mathlib.Core.Path.{refl, ap, ◌∙◌}
use native.Mathlib.Omega.{arith}
use lib.ListN.{get_or}
use lib.Count.{ones}
use Rattle.judge.proofs.Walking.{sum-cons, size-sparse}
use Rattle.judge.proofs.Thinning.{pass-one, pass-eight, thin-ones}
use Rattle.judge.proofs.pass.Goals as goal

pub returns-then-eight_thin : goal.returns-then-eight_thin
returns-then-eight_thin c =
    let h = c.eight_thin.ensures c.if-eight_thin.true in
    pass-eight c.args.s.now c.args.d.now c.args.n
    (λ k. omega (arith, c.type_inv.s k))
    c.requires.1 c.args.at c.args.i _ h.0 h.1
    c.requires.3
    (ap ones c.low_word.ensures ∙ thin-ones c.args.d.now c.args.i 8 h.1)

pub rises-requires : goal.rises-requires
rises-requires c =
    let t = c.requires.2 c.args.i c.requires.0 in (
      omega (arith, t),
      omega (
        arith,
        sum-cons c.args.d.now c.args.n c.args.i c.requires.1 c.requires.0,
        size-sparse (get_or c.args.d.now c.args.i 0) t,
        c.requires.3,
      ),
    )

pub returns : goal.returns
returns c =
    rw c.then_some.ensures
    (pass-one c.args.s.now c.args.d.now c.args.n
    (λ k. omega (arith, c.type_inv.s k))
    c.requires.1 c.args.at c.args.i _ _ c.requires.0 refl
    (c.requires.2 c.args.i c.requires.0)
    c.requires.3 c.rises.ensures)
