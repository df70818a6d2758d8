-- The invariant (Along): the chunks passed are written, and with what is left they are all chunks.
-- Assumes nothing.
use mathlib.Core.Path.{◌≡◌}
use Rattle.bitmap_laws.proofs.Output.{Along}
use Rattle.bitmap_laws.proofs.Values.{AllLe}
use Rattle.chunks_write.proofs.Rests.{chunks_of}
use Rattle.chunks_write.proofs.put_chunks.Given as goal

abbrev pub invariant-loop-chunk : goal.invariant-loop-chunk
invariant-loop-chunk l =
    (l.chunk-iterator.size ≡ 256)
    × AllLe 63 l.chunk-iterator.rest.now
    × Along l.initial.out l.out l.at l.t (chunks_of l.chunk-iterator.rest.now) (chunks_of l.ds)
