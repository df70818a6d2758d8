-- Where the bound tells, the chunks are not longer (chunks-size); else they are measured.
-- Assumes nothing.
use mathlib.Core.Path.{refl}
use native.Mathlib.Omega.{arith}
use Rattle.bitmap_laws.proofs.Length.{sum-le}
use Rattle.pair_place.proofs.Placing.{fits_bound}
use Rattle.pair_place.proofs.fits.Goals as goal

pub overflow_add-ds-3 : goal.overflow_add-ds-3
overflow_add-ds-3 c = omega (arith, c.requires.0, c.requires.2, sum-le c.args.ds.now)

pub returns-then-ds-size : goal.returns-then-ds-size
returns-then-ds-size c =
    fits_bound c.args.ds.now c.args.size c.args.room c.requires.1 c.if-ds-size.true

pub returns : goal.returns
returns c =
    rw (c.form_size.ensures, c.requires.2) refl
