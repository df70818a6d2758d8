-- By what the count was read as, then its bounds. Assumes nothing.
use mathlib.Core.Path.{ap}
use borrow.Author.Tests.{le-leb, lt-leb}
use Rattle.common.specs.Outcome.{need, refused}
use Rattle.row_spec.specs.Schema.{schema, held}
use Rattle.row_laws.proofs.Varints.{number-fault}
use Rattle.schema.proofs.parse.read.Goals as goal

pub returns-in_default : goal.returns-in_default
unfolding schema held
returns-in_default c =
    rw (← c.varint.ensures, c.in_default.is) (ap held (number-fault c.in_default.field-0 (refused 20) _))

pub returns-then-n-lt1 : goal.returns-then-n-lt1
unfolding schema need held
returns-then-n-lt1 c = rw (← c.varint.ensures, c.in-Ok.is, lt-leb 1 _ c.if-n-lt1.true)

pub returns-then-n-gt64 : goal.returns-then-n-gt64
unfolding schema need held
returns-then-n-gt64 c = rw (← c.varint.ensures, c.in-Ok.is, le-leb 1 _ c.if-n-lt1.false, lt-leb _ 64 c.if-n-gt64.true)

pub returns : goal.returns
unfolding schema need
returns c =
    rw (← c.varint.ensures, c.in-Ok.is, le-leb 1 _ c.if-n-lt1.false, le-leb _ 64 c.if-n-gt64.false) c.columns.ensures
