-- The call's answer and output are the outcome's. Assumes nothing.
use Rattle.c_bitmap.proofs.Writes.{answered}
use Rattle.c_bitmap.proofs.writing.bitmap_write.Goals as goal

pub returns : goal.returns
returns c =
    answered _ c.args.out.now _ c.write_list.result c.answer.result c.args.size.now _ c.write_list.ensures
    c.answer.ensures
