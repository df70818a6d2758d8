-- The three terms are those of descriptor.
use Rattle.std.proofs.Common.{arith}
use Rattle.chunk_vectors.proofs.Parting.{total}
use Rattle.chunk_vectors.proofs.value_of.Goals as goal

pub returns : goal.returns
returns c =
    total c.args.s.now c.args.h c.args.i c.packed_value-p.result c.part_of-x.result (omega (arith, c.requires.2.widths))
    c.packed_value-p.ensures.0 c.part_of-x.ensures.0
