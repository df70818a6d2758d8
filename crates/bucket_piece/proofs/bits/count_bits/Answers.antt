-- The words, then the bits behind them. Assumes nothing.
use Rattle.bucket_piece.proofs.Words.{count-both}
use native.Mathlib.Omega.{arith}
use Rattle.bucket_piece.proofs.bits.count_bits.Goals as goal

pub returns-then-has : goal.returns-then-has
returns-then-has c = (
  omega (arith, count-both c.args.s.now c.args.at c.args.n, c.count_words.ensures.0, c.count_few.ensures.0),
  omega (arith, c.count_words.ensures.1, c.count_few.ensures.1),
)
