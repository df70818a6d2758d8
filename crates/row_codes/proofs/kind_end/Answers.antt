-- Kind by kind. Assumes nothing.
use borrow.Author.Tests.{lt-ltb, le-ltb}
use Rattle.row_codes.specs.Codes.{kind_end}
use Rattle.row_codes.proofs.kind_end.Goals as goal

pub returns-then-k-gt0 : goal.returns-then-k-gt0
unfolding kind_end
returns-then-k-gt0 c =
    rw (lt-ltb c.args.k 9 c.if-k-lt9.true, lt-ltb 0 c.args.k c.if-k-gt0.true)
    c.fixed_end.ensures

pub returns-then-k-lt9 : goal.returns-then-k-lt9
unfolding kind_end
returns-then-k-lt9 c =
    rw (lt-ltb c.args.k 9 c.if-k-lt9.true, le-ltb 0 c.args.k c.if-k-gt0.false)
    c.boolean_end.ensures

pub returns-then-k-gt9 : goal.returns-then-k-gt9
unfolding kind_end
returns-then-k-gt9 c =
    rw (le-ltb c.args.k 9 c.if-k-lt9.false, lt-ltb 9 c.args.k c.if-k-gt9.true)
    c.sized_end.ensures

pub returns : goal.returns
unfolding kind_end
returns c =
    rw (le-ltb c.args.k 9 c.if-k-lt9.false, le-ltb 9 c.args.k c.if-k-gt9.false)
    c.time_end.ensures
