-- Room for the whole form, then its parts one behind the other.
-- Assumes nothing.
use mathlib.Core.Path.{refl, ap}
use Prim.Native.Nat.{◌≤◌}
use native.Mathlib.Omega.{arith}
use lib.ListN.{length}
use Rattle.bitmap_spec.specs.Form.{form}
use Rattle.bitmap_laws.proofs.Output.{refuse13, give}
use Rattle.form_write.proofs.Whole.{few, fine, size, body-room, all-parts}
use Rattle.pair_place.proofs.Placing.{body-size, fits-yes, fits-no, same_bytes}
use Rattle.pair_place.proofs.put_form.Goals as goal

pub fits-requires : goal.fits-requires
fits-requires c =
    (few _ _ _ _ c.requires.formed.describes, fine _ _ _ _ c.requires.formed.describes, body-size _ _ _ _ c.requires.formed)

pub returns-then-not-fits : goal.returns-then-not-fits
returns-then-not-fits c =
    λ l f.
    refuse13 (form l) c.args.out.now
    (omega (
      arith,
      size _ _ _ _ f.describes,
      body-size _ _ _ _ f,
      fits-no c.args.ds.now (length c.args.body.now) (length c.args.out.now) c.fits.result
          c.fits.ensures (c.if-not-fits.true),
    ))

pub put_head-to-requires : goal.put_head-to-requires
put_head-to-requires c = (
  few _ _ _ _ c.requires.formed.describes,
  fine _ _ _ _ c.requires.formed.describes,
  omega (
    arith,
    fits-yes c.args.ds.now (length c.args.body.now) (length c.args.out.now) c.fits.result
        c.fits.ensures (c.if-not-fits.false),
  ),
)

pub overflow_add-len : goal.overflow_add-len
overflow_add-len c =
    omega (
      arith,
      c.put_head-to.ensures.0,
      fits-yes c.args.ds.now (length c.args.body.now) (length c.args.out.now) c.fits.result
          c.fits.ensures (c.if-not-fits.false),
      c.well_formed.1.1.1.0,
    )

pub copy_part-requires : goal.copy_part-requires
copy_part-requires c =
    let r =
    body-room _ _ _ _ c.requires.formed.describes c.put_head-to.result
    (length c.args.out.now)
    c.put_head-to.ensures.0
    (omega (
      arith,
      size _ _ _ _ c.requires.formed.describes,
      body-size _ _ _ _ c.requires.formed,
      fits-yes
          c.args.ds.now
          (length
          c.args.body.now)
          (length
          c.args.out.now)
          c.fits.result
          c.fits.ensures
          (c.if-not-fits.false),
    ))
    in (omega arith, omega (arith, ap length c.requires.formed.bytes, r, c.put_head-to.auto.out))

pub returns : goal.returns
returns c =
    λ l f.
    let z = size _ _ _ _ f.describes in let b = body-size _ _ _ _ f in let h : length (form l) ≤ length
    c.args.out.now
    = omega (
      arith,
      z,
      b,
      fits-yes
          c.args.ds.now
          (length
          c.args.body.now)
          (length
          c.args.out.now)
          c.fits.result
          c.fits.ensures
          (c.if-not-fits.false),
    )
    in give (form l)
    c.args.out.now
    _ _ h
    (all-parts _ _ _ _ f.describes
    c.args.out.now
    _ _ c.put_head-to.result h
    c.put_head-to.ensures.0
    c.put_head-to.ensures.1
    (same_bytes _ _
    c.args.body.now
    _ _
    (length
    c.args.body.now)
    refl c.copy_part.ensures f.bytes))
    (omega (arith, c.put_head-to.ensures.0, b, z))
