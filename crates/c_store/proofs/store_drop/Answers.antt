-- The status is the answer's, and the directory is left as the call left it. Assumes nothing.
use borrow.Author.Rules.{rules}
use Rattle.c_store.proofs.Calls.{drop-call}
use Rattle.c_store.proofs.store_drop.Goals as goal

pub returns : goal.returns
returns c =
    drop-call _ _ _ c.status_of.ensures _ _ _ _ _ c.drop_slot.ensures
