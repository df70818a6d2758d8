-- The invariant: the descriptors of the containers passed, and their bytes behind one another in the output.
-- Assumes nothing.
use mathlib.Core.Path.{refl, ◌∙◌}
use Prim.Native.Nat.{◌-◌}
use native.Mathlib.Omega.{arith}
use Rattle.form_write.proofs.Cells.{no-descs}
use Rattle.pair_write.proofs.Sources.{roomy-count}
use Rattle.pair_write.specs.Sides.{result_of}
use Rattle.pair_write.proofs.Passing.{starts, cells-within}
use Rattle.pair_place.proofs.Placing.{chunk-turn, no_chunk, all-passed}
use Rattle.pair_place.proofs.put_chunkwise.Goals as goal

pub loop-k-init : goal.loop-k-init
loop-k-init c = (
  omega arith,
  starts c.args.o c.args.x c.args.y _ refl refl refl refl,
  refl,
  refl,
  refl,
  no-descs (result_of c.args.o c.args.x c.args.y)
      c.args.ds.now,
  no_chunk (result_of c.args.o c.args.x c.args.y)
      c.args.out.now c.args.to,
)

pub chunk_end-e-requires : goal.chunk_end-e-requires
chunk_end-e-requires c =
    (c.loop-k-test.true, c.requires.0)

pub gather-q-requires : goal.gather-q-requires
gather-q-requires c = (
  c.loop-k.invariant.1,
  omega (arith, c.chunk_end-e.ensures.0),
  omega (arith, c.chunk_end-e.ensures.1, c.requires.0),
  omega (arith, c.chunk_end-e.ensures.1, c.requires.1, c.loop-k.invariant.2),
  roomy-count _ c.loop-k.k c.chunk_end-e.result _ _ c.loop-k.invariant.1.bytes
      (omega (arith, c.chunk_end-e.ensures.2, c.requires.2, c.loop-k.invariant.3)),
)

pub overflow_sub-q : goal.overflow_sub-q
overflow_sub-q c =
    c.gather-q.ensures.grown

pub overflow_add-to : goal.overflow_add-to
overflow_add-to c =
    omega (
      arith,
      c.well_formed.1.1.1.1.1.1.0,
      c.requires.3,
      c.loop-k.invariant.1.bytes,
      cells-within
          (result_of c.args.o c.args.x c.args.y)
          c.loop-k.k c.args.n c.loop-k.invariant.0,
    )

pub copy_part-requires : goal.copy_part-requires
copy_part-requires c = (
  omega (arith, c.gather-q.ensures.within),
  omega (
    arith,
    c.gather-q.ensures.grown,
    c.requires.3,
    c.loop-k.invariant.4,
    c.gather-q.ensures.reached.bytes,
    cells-within
        (result_of c.args.o c.args.x c.args.y)
        c.chunk_end-e.result c.args.n c.chunk_end-e.ensures.1,
  ),
)

pub loop-k-smaller : goal.loop-k-smaller
loop-k-smaller c =
    omega (arith, c.chunk_end-e.ensures.0, c.chunk_end-e.ensures.1)

pub loop-k-preserved : goal.loop-k-preserved
loop-k-preserved c = (
  c.chunk_end-e.ensures.1,
  c.gather-q.ensures.reached,
  c.gather-q.auto.ds ∙ c.loop-k.invariant.2,
  c.gather-q.auto.body ∙ c.loop-k.invariant.3,
  c.copy_part.auto.out ∙ c.loop-k.invariant.4,
  c.gather-q.ensures.descs c.args.ds.now (omega (arith, c.chunk_end-e.ensures.1, c.requires.1)) c.loop-k.invariant.5,
  chunk-turn c.args.out.now c.loop-k.out _ _ c.gather-q.new.body _ c.args.to
      c.loop-k.p.size (c.gather-q.result.size - c.loop-k.p.size) c.loop-k.invariant.6 c.loop-k.invariant.1.bytes
      c.copy_part.ensures c.gather-q.ensures.bytes
      (omega (
        arith,
        c.requires.3,
        cells-within
            (result_of c.args.o c.args.x c.args.y)
            c.chunk_end-e.result c.args.n c.chunk_end-e.ensures.1,
      )),
)

pub shape_of-ds : goal.shape_of-ds
shape_of-ds c = c.loop-k.invariant.2

pub shape_of-body : goal.shape_of-body
shape_of-body c = c.loop-k.invariant.3

pub shape_of-out : goal.shape_of-out
shape_of-out c = c.loop-k.invariant.4

pub returns : goal.returns
returns c =
    all-passed (result_of c.args.o c.args.x c.args.y)
    c.args.x c.args.y c.args.n c.loop-k.k c.args.ds.now c.loop-k.ds
    c.args.out.now c.loop-k.out c.args.to c.loop-k.p (omega (arith, c.loop-k-test.false, c.loop-k.invariant.0))
    c.loop-k.invariant.1 c.loop-k.invariant.5 c.loop-k.invariant.6
