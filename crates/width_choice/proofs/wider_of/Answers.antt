-- The values wider than b are the descriptors over the threshold; the least is not over it, so a byte counts them.
-- Assumes nothing.
use mathlib.Core.Path.{◌∙◌}
use native.Mathlib.Omega.{arith}
use Rattle.width_choice.proofs.Thresholds.{under-step, over-step, over-all}
use Rattle.width_choice.proofs.wider_of.Goals as goal

pub returns-then-t-gt255 : goal.returns-then-t-gt255
returns-then-t-gt255 c = (
  over-all c.args.m c.args.b c.requires.2 c.args.ds.now (λ k. omega (arith, c.type_inv.ds k)) c.if-t-gt255.true,
  omega arith,
)

pub count_over-requires : goal.count_over-requires
count_over-requires c =
    under-step c.args.m c.args.b c.requires.2 c.args.ds.now c.requires.0 c.requires.1

pub returns : goal.returns
returns c =
    let few = under-step c.args.m c.args.b c.requires.2 c.args.ds.now c.requires.0 c.requires.1 in
    let same = over-step c.args.m c.args.b c.requires.2 c.args.ds.now (λ k. omega (arith, c.type_inv.ds k)) in
    (c.count_over.ensures ∙ same, omega (arith, c.count_over.ensures, few))
