-- Each case is the definition's, with one, two or three groups.
-- Assumes nothing.
use lib.ListN.{length-set}
use Rattle.bitmap_spec.specs.Output.{written}
use Rattle.store_save.proofs.Sizes.{one-group, two-groups, three-groups, one_written, two-written}
use mathlib.Core.Path.{sym, ap, ◌∙◌}
use native.Mathlib.Omega.{arith}
use lib.ListN.{length}
use Rattle.store_save.proofs.put_groups.Goals as goal

pub bounds-out-at : goal.bounds-out-at
bounds-out-at c =
    omega (arith, c.requires.1, ap length (one-group c.args.n c.if-n-lt128.true))

pub returns-then-n-lt128 : goal.returns-then-n-lt128
returns-then-n-lt128 c = (
  sym (ap length (one-group _ c.if-n-lt128.true)),
  one_written _ _ _ (omega (arith, c.requires.1, ap length (one-group c.args.n c.if-n-lt128.true))) ∙
      ap (written c.args.out.now c.args.at) (sym (one-group _ c.if-n-lt128.true)),
)

pub bounds-out-at-then-n-lt16384 : goal.bounds-out-at-then-n-lt16384
bounds-out-at-then-n-lt16384 c =
    omega (arith, c.requires.1, ap length (two-groups c.args.n c.if-n-lt128.false c.if-n-lt16384.true))

pub bounds-out-at-then-n-lt16384-2 : goal.bounds-out-at-then-n-lt16384-2
bounds-out-at-then-n-lt16384-2 c =
    simp length-set (omega (arith, c.requires.1, ap length (two-groups c.args.n c.if-n-lt128.false c.if-n-lt16384.true)))

pub returns-then-n-lt16384 : goal.returns-then-n-lt16384
returns-then-n-lt16384 c = (
  sym (ap length (two-groups _ c.if-n-lt128.false c.if-n-lt16384.true)),
  two-written _ _ _ _ (omega (arith, c.requires.1, ap length (two-groups c.args.n c.if-n-lt128.false c.if-n-lt16384.true))) ∙ ap
      (written c.args.out.now c.args.at) (sym (two-groups _ c.if-n-lt128.false c.if-n-lt16384.true)),
)

pub put3-requires : goal.put3-requires
put3-requires c =
    omega (arith, c.requires.1, ap length (three-groups c.args.n c.if-n-lt16384.false c.requires.0))

pub returns : goal.returns
returns c = (
  c.put3.ensures.0 ∙ sym (ap length (three-groups _ c.if-n-lt16384.false c.requires.0)),
  c.put3.ensures.1 ∙ ap (written c.args.out.now c.args.at) (sym (three-groups _ c.if-n-lt16384.false c.requires.0)),
)
