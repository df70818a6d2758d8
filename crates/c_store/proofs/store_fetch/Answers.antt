-- The call's answer and output are the outcome's. Assumes nothing.
use borrow.Author.Rules.{rules}
use Rattle.c_bitmap.proofs.Writes.{answered}
use Rattle.c_store.proofs.store_fetch.Goals as goal

pub returns : goal.returns
returns c =
    answered _ c.args.out.now _ c.fetch.result c.answer.result c.args.size.now _ c.fetch.ensures
    c.answer.ensures
