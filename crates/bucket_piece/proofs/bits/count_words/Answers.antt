-- The loop keeps the count of the words passed. Assumes nothing.
use Rattle.common.specs.Bytes.{low_count}
use lib.Count.{ones}
use Rattle.bucket_piece.proofs.Words.{count_word}
use mathlib.Core.Path.{refl, ap}
use native.Mathlib.Omega.{arith}
use Rattle.bucket_piece.proofs.bits.count_words.Goals as goal

pub loop-q-init : goal.loop-q-init
unfolding low_count
loop-q-init c = (omega arith, refl, omega arith)

pub loop-q-preserved : goal.loop-q-preserved
loop-q-preserved c = (
  omega arith,
  omega (
    arith,
    count_word c.args.s.now (λ k. omega (arith, c.type_inv.s k)) c.args.at c.loop-q.q,
    c.ones_of-c.ensures.0,
    ap ones c.low_word.ensures,
  ),
  omega (arith, c.ones_of-c.ensures.1),
)
