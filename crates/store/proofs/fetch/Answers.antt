-- The slot is the owner's, or the call is refused; then the fetch on the owner's share.
-- Assumes nothing.
use Rattle.store_halves.proofs.Parts.{dir-long}
use Rattle.store_share.proofs.Calls.{gives-refused, gives_as}
use Rattle.store.proofs.Owner.{mine, small, fetch-refused, fetch-is}
use mathlib.Core.Path.{ap, ◌∙◌}
use native.Mathlib.Omega.{arith}
use lib.ListN.{length}
use Rattle.std.proofs.lemmas.Result.{err_from_is_err_and}
use Rattle.store.proofs.fetch.Goals as goal

pub returns-in_err-first_refusal : goal.returns-in_err-first_refusal
returns-in_err-first_refusal c =
    let p = err_from_is_err_and c.from_residual.result c.from_residual.ensures.1 in
    rw (p.1, p.2) (gives-refused _ _ _ (fetch-refused _ _ _ _ _ _ c.in_err-first_refusal.ensures))

pub numbers_of-numbers-requires : goal.numbers_of-numbers-requires
numbers_of-numbers-requires c =
    let own = mine c.args.owner c.args.slot c.args.dir.now c.in_ok-first_refusal.ensures in
    (omega (arith, small _ _ _ own), own.many)

pub bytes_of-requires : goal.bytes_of-requires
bytes_of-requires c =
    let own = mine c.args.owner c.args.slot c.args.dir.now c.in_ok-first_refusal.ensures in
    omega (arith, small _ _ _ own)

pub fetch-requires : goal.fetch-requires
fetch-requires c =
    let own = mine c.args.owner c.args.slot c.args.dir.now c.in_ok-first_refusal.ensures in (
      omega arith,
      omega arith,
      ap length c.numbers_of-numbers.ensures ∙ dir-long c.args.dir.now c.args.owner (small _ _ _ own)
          own.many,
    )

pub returns : goal.returns
returns c =
    let own = mine c.args.owner c.args.slot c.args.dir.now c.in_ok-first_refusal.ensures in
    gives_as _ _ _ _ _
    (fetch-is c.args.owner c.args.slot _ c.args.dir.now c.args.buf.now _ _ own c.numbers_of-numbers.ensures
    c.bytes_of.ensures)
    c.fetch.ensures
