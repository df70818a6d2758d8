-- Room, then the least length. Assumes nothing.
use borrow.Author.Tests.{le-leb, lt-leb}
use Rattle.common.specs.Outcome.{need}
use Rattle.bucket_piece.specs.Stored.{sized_next}
use mathlib.Core.Path.{sym, ◌∙◌}
use Rattle.bucket_piece.proofs.run.sized_next.Goals as goal

pub returns-then-not-has : goal.returns-then-not-has
unfolding sized_next need
returns-then-not-has c = rw (sym c.has.ensures ∙ c.if-not-has.true)

pub returns-then-m-least : goal.returns-then-m-least
unfolding sized_next need
returns-then-m-least c =
    rw (
      sym c.has.ensures ∙ c.if-not-has.false,
      lt-leb c.args.least c.args.m c.if-m-least.true,
    )

pub returns : goal.returns
unfolding sized_next need
returns c =
    rw (
      sym c.has.ensures ∙ c.if-not-has.false,
      le-leb c.args.least c.args.m c.if-m-least.false,
    )
