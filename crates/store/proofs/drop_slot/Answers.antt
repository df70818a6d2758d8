-- The slot is the owner's, or the call is refused; then the owner's share is told to empty it.
-- Assumes nothing.
use Rattle.store_halves.proofs.Parts.{dir-is}
use Rattle.store.proofs.Owner.{mine, small, drop-refused, drop-done}
use mathlib.Core.Path.{refl}
use native.Mathlib.Omega.{arith}
use Rattle.std.proofs.lemmas.Result.{err_from_is_err_and}
use Rattle.store.proofs.drop_slot.Goals as goal

pub returns-in_err-first_refusal : goal.returns-in_err-first_refusal
returns-in_err-first_refusal c =
    let p = err_from_is_err_and c.from_residual.result c.from_residual.ensures.1 in
    rw (p.1, p.2) (drop-refused _ _ _ _ _ c.in_err-first_refusal.ensures)

pub bytes_of-half-requires : goal.bytes_of-half-requires
bytes_of-half-requires c =
    let own = mine c.args.owner c.args.slot c.args.dir.now c.in_ok-first_refusal.ensures in
    omega (arith, small _ _ _ own)

pub slice_bounds-clear-end : goal.slice_bounds-clear-end
slice_bounds-clear-end c =
    let own = mine c.args.owner c.args.slot c.args.dir.now c.in_ok-first_refusal.ensures in
    omega (arith, own.many, small _ _ _ own)

pub returns : goal.returns
returns c =
    let own = mine c.args.owner c.args.slot c.args.dir.now c.in_ok-first_refusal.ensures in
    drop-done c.args.owner c.args.slot c.args.dir.now c.args.buf.now _ _ _ _ _ own
    (dir-is c.args.dir.now c.args.owner) c.bytes_of-half.ensures c.clear.auto.dir refl c.clear.ensures
