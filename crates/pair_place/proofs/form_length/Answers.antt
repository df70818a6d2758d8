-- The descriptors without the last zeros describe the result.
-- Assumes nothing.
use mathlib.Core.Path.{refl, sym, ◌∙◌}
use native.Mathlib.Omega.{arith}
use Rattle.form_write.proofs.Whole.{few, fine, size}
use Rattle.pair_write.proofs.Result.{trimmed-long, describes}
use Rattle.pair_place.proofs.form_length.Goals as goal

pub describe-requires : goal.describe-requires
describe-requires c =
    (omega (arith, c.requires.0, c.args.x.sound.few, c.args.y.sound.few), c.requires.1)

pub slice_bounds-form_size-end-2 : goal.slice_bounds-form_size-end-2
slice_bounds-form_size-end-2 c =
    sym
    (trimmed-long c.args.o c.args.x c.args.y c.describe.new.ds _ c.args.n c.trim-m.result _ c.requires.0
    c.describe.ensures c.trim-m.ensures (refl))

pub form_size-requires : goal.form_size-requires
form_size-requires c =
    let d = describes c.args.o c.args.x c.args.y
    c.describe.new.ds _ c.args.n c.trim-m.result _ c.requires.0 c.describe.ensures
    c.trim-m.ensures (refl) in
    (few _ _ _ _ d, fine _ _ _ _ d)

pub returns : goal.returns
returns c =
    c.form_size.ensures ∙ size _ _ _ _
    (describes c.args.o c.args.x c.args.y
    c.describe.new.ds _ c.args.n c.trim-m.result _ c.requires.0 c.describe.ensures
    c.trim-m.ensures (refl))
