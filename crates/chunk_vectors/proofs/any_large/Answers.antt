-- Where the end is reached, all are at most 63.
use Rattle.std.proofs.Common.{arith}
use Rattle.chunk_vectors.proofs.Downward.{all-le}
use Rattle.chunk_vectors.proofs.any_large.Goals as goal

pub returns : goal.returns
returns c = λ e. all-le c.args.ds.now (λ i h. c.loop-d.invariant i (omega arith))
