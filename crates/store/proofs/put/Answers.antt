-- The slot is the owner's, or the call is refused; then the put on the owner's share, put back in its place.
-- Assumes nothing.
use Rattle.store_spec.specs.Owners.{half}
use Rattle.store_halves.proofs.Parts.{in-buf, dir-is, buf-is}
use Rattle.store.proofs.Owner.{mine, small, put_refused, put-done}
use mathlib.Core.Path.{refl}
use native.Mathlib.Omega.{arith}
use Rattle.std.proofs.lemmas.Result.{err_from_is_err_and}
use Rattle.store.proofs.put.Goals as goal

pub returns-in_err-first_refusal : goal.returns-in_err-first_refusal
returns-in_err-first_refusal c =
    let p = err_from_is_err_and c.from_residual.result c.from_residual.ensures.1 in
    rw (p.1, p.2) (put_refused _ _ _ _ _ _ c.in_err-first_refusal.ensures)

pub overflow_mul-s : goal.overflow_mul-s
overflow_mul-s c =
    let own = mine c.args.owner c.args.slot c.args.dir.now c.in_ok-first_refusal.ensures in
    omega (arith, in-buf c.args.buf.now c.args.owner (small _ _ _ own))

pub slice_bounds-put-end : goal.slice_bounds-put-end
slice_bounds-put-end c =
    let own = mine c.args.owner c.args.slot c.args.dir.now c.in_ok-first_refusal.ensures in
    omega (arith, own.many, small _ _ _ own)

pub overflow_add-s : goal.overflow_add-s
overflow_add-s c =
    let own = mine c.args.owner c.args.slot c.args.dir.now c.in_ok-first_refusal.ensures in
    omega (arith, in-buf c.args.buf.now c.args.owner (small _ _ _ own))

pub slice_bounds-put-end-2 : goal.slice_bounds-put-end-2
slice_bounds-put-end-2 c =
    let own = mine c.args.owner c.args.slot c.args.dir.now c.in_ok-first_refusal.ensures in
    omega (arith, in-buf c.args.buf.now c.args.owner (small _ _ _ own))

pub returns : goal.returns
unfolding half
returns c =
    let own = mine c.args.owner c.args.slot c.args.dir.now c.in_ok-first_refusal.ensures in
    put-done c.args.owner c.args.slot c.args.bitmap.now c.args.dir.now c.args.buf.now _ _ _ _ _ _ _ own
    (dir-is c.args.dir.now c.args.owner) (buf-is c.args.buf.now c.args.owner) c.put.auto.dir c.put.auto.buf
    refl refl c.put.ensures
