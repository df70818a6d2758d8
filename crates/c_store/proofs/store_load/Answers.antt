-- The status is the answer's, and the store is left as the call left it. Assumes nothing.
use borrow.Author.Rules.{rules}
use Rattle.c_store.proofs.Calls.{load-call}
use Rattle.c_store.proofs.store_load.Goals as goal

pub returns : goal.returns
returns c =
    load-call _ _ _ c.status_of.ensures _ _ _ _ c.load.ensures
