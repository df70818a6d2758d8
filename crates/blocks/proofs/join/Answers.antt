-- The block's two halves, joined one after the other.
-- Assumes nothing.
use Rattle.blocks.proofs.Digits.{both_halves}
use Rattle.blocks.proofs.join.Goals as goal

pub returns : goal.returns
returns c =
    both_halves c.args.o c.args.a.now c.args.at c.args.b.now c.args.bt _ _ _ c.masks_of-m.ensures.0 c.masks_of-m.ensures.1 c.masks_of-m.ensures.2 c.args.out.now _ _ c.args.to _ _
    c.requires.2
    c.join16-x.ensures c.join16-y.ensures
