-- The fields are those of head_at, term by term.
use Rattle.std.proofs.Common.{arith, refl}
use Rattle.common.specs.Bytes.{ceil8}
use Rattle.bitmap_spec.specs.Judge.{head_at, head_with}
use Rattle.chunk_vectors.proofs.head_of.Goals as goal

pub returns : goal.returns
unfolding head_at head_with ceil8
returns c = (refl, record { b1 = omega arith; b2 = omega arith; e = omega arith; m = omega arith; primary = refl; offsets = refl; parts = refl })
