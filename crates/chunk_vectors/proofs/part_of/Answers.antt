-- One exception more adds its part where its offset names i, and else nothing.
use Rattle.std.proofs.Common.{arith}
use Rattle.chunk_vectors.proofs.Parting.{none, hit, miss}
use Rattle.chunk_vectors.proofs.part_of.Goals as goal
use Rattle.chunk_vectors.proofs.part_of.Goals.{then-s-o, else-s-o}

pub loop-k-init : goal.loop-k-init
loop-k-init c = none c.args.s.now c.args.h c.args.i

pub loop-k-preserved : goal.loop-k-preserved
loop-k-preserved c =
    elim c.if-s-o.branch [
      | then-s-o w ↦
          rw w.sum-is
          (hit c.args.s.now c.args.h c.args.i c.loop-k.sum c.loop-k.k c.loop-k.invariant c.loop-k-test.true w.packed_value-sum.result
          (omega (arith, c.requires.widths)) w.if-s-o.true w.packed_value-sum.ensures.0 w.packed_value-sum.ensures.1)
      | else-s-o w ↦
          rw w.sum-is (miss c.args.s.now c.args.h c.args.i c.loop-k.sum c.loop-k.k c.loop-k.invariant c.loop-k-test.true w.if-s-o.false)
    ]
