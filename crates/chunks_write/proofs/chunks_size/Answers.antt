-- The invariant: the size so far and that of the chunks left make the size of all chunks.
-- Assumes nothing.
use mathlib.Core.Path.{◌≡◌, ap, ◌∙◌}
use native.Mathlib.Omega.{arith}
use lib.ListN.{length}
use Rattle.chunks_write.proofs.Rests.{chunks_of, chunks_none, part-le, rest-le, all-few, size-turn}
use Rattle.chunks_write.proofs.chunks_size.Goals as goal

pub chunk_size-t-requires : goal.chunk_size-t-requires
chunk_size-t-requires c =
    let step = c.in-Some.ensures.steps.1 in
    let long = rw c.loop-chunk.invariant.0 at step.1 in
    (omega (arith, long), omega (arith, long), part-le _ _ _ step.0 long step.2 c.loop-chunk.invariant.1)

pub overflow_add-t : goal.overflow_add-t
overflow_add-t c =
    omega (arith, all-few c.args.ds.now c.requires.0 c.requires.1, c.loop-chunk.invariant.2, c.chunk_size-t.ensures.1)

pub loop-chunk-preserved : goal.loop-chunk-preserved
loop-chunk-preserved c =
    let step = c.in-Some.ensures.steps.1 in
    let long = rw c.loop-chunk.invariant.0 at step.1 in (
      c.in-Some.ensures.steps.0 ∙ c.loop-chunk.invariant.0,
      rest-le _ _ _ step.0 long step.2 c.loop-chunk.invariant.1,
      size-turn _ _ _ step.0 long step.2 _ _ _ c.loop-chunk.invariant.2 c.chunk_size-t.ensures.0,
    )

pub returns : goal.returns
returns c =
    let none = ap length (chunks_none _ c.in-None.ensures.steps.1.0) in
    let all : c.loop-chunk.t ≡ length (chunks_of c.args.ds.now) = omega (arith, none, c.loop-chunk.invariant.2) in
    (all, omega (arith, all, all-few c.args.ds.now c.requires.0 c.requires.1))
