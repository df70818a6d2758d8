-- The share and the bitmap are judged; what is left is the form put in place of the slot's.
-- Assumes nothing.
use lib.Seq.{length-take-le}
use Rattle.store_spec.specs.Store.{put_in}
use Rattle.store_laws.proofs.Changes.{change-refused}
use Rattle.bitmap_rewrite.proofs.Laying.{told-refused, told-ready}
use Rattle.store_share.proofs.Calls.{lies, bad}
use Rattle.store_share.proofs.Putting.{formed, put_refused, put-stored, changes-as}
use mathlib.Core.Path.{sym}
use native.Mathlib.Omega.{arith}
use lib.ListN.{length}
use Rattle.std.proofs.lemmas.Result.{err_from_is_err_and}
use Rattle.store_share.proofs.put.Goals as goal

pub returns-then-not-is_sound : goal.returns-then-not-is_sound
returns-then-not-is_sound c =
    change-refused _ _ _ _ _
    (bad _ _ _ (put_in (length c.args.buf.now) c.args.k c.args.bitmap.now) _ c.requires.2
    c.is_sound.ensures (c.if-not-is_sound.true))

pub slice_bounds-d-end : goal.slice_bounds-d-end
slice_bounds-d-end c =
    let t = told-ready c.args.bitmap.now _ _ c.in_ok-form.ensures in
    omega (arith, t.2.few, t.2.long)

pub slice_bounds-replace-end : goal.slice_bounds-replace-end
slice_bounds-replace-end c =
    let t = told-ready c.args.bitmap.now _ _ c.in_ok-form.ensures in
    sym (length-take-le _ _ (omega (arith, t.2.few, t.2.long)))

pub replace-requires : goal.replace-requires
replace-requires c =
    let t = told-ready c.args.bitmap.now _ _ c.in_ok-form.ensures in (
      c.requires.0,
      c.requires.1,
      c.requires.2,
      lies _ _ _ _ c.is_sound.ensures (c.if-not-is_sound.false),
      formed _ _ t.0 _ _ _ _ t.1 t.2 (length-take-le _ _ (omega (arith, t.2.few, t.2.long))),
    )

pub returns-in_err-form : goal.returns-in_err-form
returns-in_err-form c =
    let p = err_from_is_err_and c.from_residual.result c.from_residual.ensures.1 in
    rw (p.1, p.2) (change-refused _ _ _ _ _
    (put_refused _ _ _ c.args.bitmap.now c.args.k _ (lies _ _ _ _ c.is_sound.ensures (c.if-not-is_sound.false))
    c.requires.2 (told-refused c.args.bitmap.now _ _ c.in_err-form.ensures)))

pub returns : goal.returns
returns c =
    let t = told-ready c.args.bitmap.now _ _ c.in_ok-form.ensures in
    changes-as _ _ _ _ _ _ _ _
    (put-stored _ _ _ c.args.bitmap.now t.0 _ c.args.k
    (lies _ _ _ _ c.is_sound.ensures (c.if-not-is_sound.false)) c.requires.2 t.1 t.2.whole)
    c.replace.ensures
