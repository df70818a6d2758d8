-- The call's answer and output are the outcome's. Assumes nothing.
use Rattle.c_bitmap.proofs.Writes.{answered}
use Rattle.c_bitmap.proofs.writing.bitmap_difference.Goals as goal

pub returns : goal.returns
returns c =
    answered _ c.args.out.now _ c.difference.result c.answer.result c.args.size.now _ c.difference.ensures
    c.answer.ensures
