-- The status is the answer's, and the store is left as the call left it. Assumes nothing.
use borrow.Author.Rules.{rules}
use Rattle.c_store.proofs.Calls.{put-call}
use Rattle.c_store.proofs.store_put.Goals as goal

pub returns : goal.returns
returns c =
    put-call _ _ _ c.status_of.ensures _ _ _ _ _ c.put.ensures
