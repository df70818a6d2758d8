-- Containers wholly below the place have no member at or above it (the laws skip-walk and skip_is).
-- Assumes nothing.
use native.Mathlib.Nat.{le_refl}
use native.Mathlib.Omega.{arith}
use lib.ListN.{length}
use lib.Seq.{take_all}
use Rattle.bitmap_list.proofs.Skipping.{skip-walk, skip_is}
use Rattle.bitmap_list.proofs.list_from.Goals as goal

-- the first container that is not wholly below the place, or the end
pub fill_page-requires : goal.fill_page-requires
fill_page-requires c =
    rw c.sizes.ensures.0
    (skip-walk _ _ _ _ c.args.place c.min-first.result c.args.set.now.sound (omega (arith, c.min-first.ensures))
    (omega (arith, c.min-first.ensures)))

pub returns : goal.returns
returns c =
    let d = c.args.set.now.descriptors.now in
    let e = skip_is _ d (length d) _ c.args.place c.min-first.result c.args.set.now.sound
    (omega (arith, c.min-first.ensures)) (omega (arith, c.min-first.ensures)) in
    rw (e, ← c.sizes.ensures.0, take_all (length d) d (le_refl (length d))) c.fill_page.ensures
