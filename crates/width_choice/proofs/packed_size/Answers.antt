-- At most 256 values of at most 8 bits: the product is small, and (p + 7) / 8 is ceil8 p.
-- Assumes nothing.
use Rattle.common.specs.Bytes.{ceil8}
use Rattle.bitmap_spec.proofs.Parts.{prod}
use mathlib.Core.Path.{refl}
use native.Mathlib.Omega.{arith}
use Rattle.width_choice.proofs.packed_size.Goals as goal

pub returns : goal.returns
unfolding ceil8
returns c =
    let few = prod 256 8 c.args.n c.args.b c.requires.0 c.requires.1 in
    (refl, omega arith)
