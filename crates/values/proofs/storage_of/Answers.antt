-- Case by case. Assumes nothing.
use borrow.Author.Tests.{le-leb, lt-leb}
use Rattle.values.proofs.storage_of.Goals as goal

pub returns-then-precision-le18 : goal.returns-then-precision-le18
returns-then-precision-le18 c = rw (c.in-Decimal.is, le-leb _ 18 c.if-precision-le18.true)

pub returns-then-precision-le6 : goal.returns-then-precision-le6
returns-then-precision-le6 c =
    rw (c.in-Timestamp.is, c.if-big.true, le-leb _ 6 c.if-precision-le6.true)

pub returns-then-big : goal.returns-then-big
returns-then-big c =
    rw (c.in-Timestamp.is, c.if-big.true, lt-leb _ 6 c.if-precision-le6.false)

pub returns-then-precision-le3 : goal.returns-then-precision-le3
returns-then-precision-le3 c =
    rw (c.in-Timestamp.is, c.if-big.false, le-leb _ 3 c.if-precision-le3.true)

pub returns-else-precision-le18 : goal.returns-else-precision-le18
returns-else-precision-le18 c = rw (c.in-Decimal.is, lt-leb _ 18 c.if-precision-le18.false)

pub returns-else-precision-le3 : goal.returns-else-precision-le3
returns-else-precision-le3 c =
    rw (c.in-Timestamp.is, c.if-big.false, lt-leb _ 3 c.if-precision-le3.false)
