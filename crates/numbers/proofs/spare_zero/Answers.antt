-- With no spare bit nothing is looked at; else the byte that holds them is shifted. Assumes nothing.
use borrow.Author.Tests.{eq-eqb, ne_eqb}
use Rattle.common.specs.Bytes.{low_spare_zero, ceil8}
use native.Mathlib.Omega.{arith}
use Rattle.numbers.proofs.spare_zero.Goals as goal

pub returns-then-r-eq0 : goal.returns-then-r-eq0
unfolding low_spare_zero
returns-then-r-eq0 c = rw (eq-eqb _ 0 c.if-r-eq0.true)

pub bounds-s-at : goal.bounds-s-at
unfolding ceil8
bounds-s-at c = omega arith

pub returns-else-r-eq0 : goal.returns-else-r-eq0
unfolding low_spare_zero
returns-else-r-eq0 c = rw (ne_eqb _ 0 c.if-r-eq0.false)
