-- By the byte order. Assumes nothing.
use Rattle.row_spec.specs.Value.{word_at}
use Rattle.numbers.proofs.word.Goals as goal

pub returns-then-big : goal.returns-then-big
unfolding word_at
returns-then-big c = rw c.if-big.true c.big_endian.ensures

pub returns : goal.returns
unfolding word_at
returns c = rw c.if-big.false c.little_endian.ensures
