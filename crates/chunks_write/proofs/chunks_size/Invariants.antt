-- The invariant: the size so far and that of the chunks left make the size of all chunks.
-- Assumes nothing.
use mathlib.Core.Path.{◌≡◌}
use Prim.Native.Nat.{◌+◌}
use lib.ListN.{length}
use Rattle.bitmap_laws.proofs.Values.{AllLe}
use Rattle.chunks_write.proofs.Rests.{chunks_of}
use Rattle.chunks_write.proofs.chunks_size.Given as goal

abbrev pub invariant-loop-chunk : goal.invariant-loop-chunk
invariant-loop-chunk l =
    (l.chunk-iterator.size ≡ 256)
    × AllLe 63 l.chunk-iterator.rest.now
    × (l.t + length (chunks_of l.chunk-iterator.rest.now) ≡ length (chunks_of l.ds))
