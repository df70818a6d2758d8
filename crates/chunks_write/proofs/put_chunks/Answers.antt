-- The invariant (Along): the chunks passed are written, and with what is left they are all chunks.
-- Assumes nothing.
use mathlib.Core.Path.{◌≡◌, ap, ◌∙◌}
use native.Mathlib.Omega.{arith}
use borrow.Author.Rules.{rules}
use Rattle.bitmap_laws.proofs.Output.{along-start, along-room, along-length, along-step, along-end}
use Rattle.chunks_write.proofs.Rests.{chunks_of, chunks_none, chunks_step, part-le, rest-le, next-room}
use Rattle.chunks_write.proofs.put_chunks.Goals as goal

pub loop-chunk-init : goal.loop-chunk-init
loop-chunk-init c =
    let size : c.into_iter-chunk-iterator.result.size ≡ 256 = search rules in
    let all : c.into_iter-chunk-iterator.result.rest.now ≡ c.args.ds.now = search rules in
    (size, rw all c.requires.1, along-start c.args.out.now c.args.at _ _ (ap chunks_of all))

pub overflow_add-at : goal.overflow_add-at
overflow_add-at c = omega (arith, along-room c.loop-chunk.invariant.2, c.requires.2)

pub put_chunk-t-requires : goal.put_chunk-t-requires
put_chunk-t-requires c =
    let step = c.in-Some.ensures.steps.1 in
    let long = rw c.loop-chunk.invariant.0 at step.1 in (
      omega (arith, long),
      omega (arith, long),
      part-le _ _ _ step.0 long step.2 c.loop-chunk.invariant.1,
      next-room _ _ _ step.0 long step.2 c.loop-chunk.invariant.2 c.requires.2,
    )

pub overflow_add-t : goal.overflow_add-t
overflow_add-t c =
    let step = c.in-Some.ensures.steps.1 in
    let long = rw c.loop-chunk.invariant.0 at step.1 in
    omega (
      arith,
      c.put_chunk-t.ensures.0,
      next-room _ _ _ step.0 long step.2 c.loop-chunk.invariant.2 c.requires.2,
      along-length c.loop-chunk.invariant.2 c.requires.2,
    )

pub loop-chunk-preserved : goal.loop-chunk-preserved
loop-chunk-preserved c =
    let step = c.in-Some.ensures.steps.1 in
    let long = rw c.loop-chunk.invariant.0 at step.1 in (
      c.in-Some.ensures.steps.0 ∙ c.loop-chunk.invariant.0,
      rest-le _ _ _ step.0 long step.2 c.loop-chunk.invariant.1,
      along-step _ _ _ _ c.loop-chunk.invariant.2 c.requires.2 (chunks_step _ _ _ step.0 long step.2)
          c.put_chunk-t.ensures.1 c.put_chunk-t.ensures.0,
    )

pub shape_of-out : goal.shape_of-out
shape_of-out c = along-length c.loop-chunk.invariant.2 c.requires.2

pub returns : goal.returns
returns c = along-end c.loop-chunk.invariant.2 (chunks_none _ c.in-None.ensures.steps.1.0)
