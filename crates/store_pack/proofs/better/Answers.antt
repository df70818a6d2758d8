-- Slot j is passed over, or compared with the best so far by its start.
-- Assumes nothing.
use Rattle.store_laws.proofs.Packing.{best-skip, best-keep, best-new}
use native.Mathlib.Omega.{arith}
use Rattle.store_pack.proofs.better.Goals as goal

pub returns-then-length_of-eq0 : goal.returns-then-length_of-eq0
returns-then-length_of-eq0 c =
    best-skip _ _ _ _ _ c.requires.3 c.requires.1 (λ l. absurd (omega (arith, c.length_of.ensures.0, c.if-length_of-eq0.true)))

pub returns-then-a-to : goal.returns-then-a-to
returns-then-a-to c =
    best-skip _ _ _ _ _ c.requires.3 c.requires.1 (λ l. omega (arith, c.start_of-a.ensures.0, c.if-a-to.true))

pub returns-then-best-n : goal.returns-then-best-n
returns-then-best-n c =
    best-new _ _ _ _ _ c.requires.3 c.requires.1 (omega (arith, c.length_of.ensures.0, c.if-length_of-eq0.false))
    (omega (arith, c.start_of-a.ensures.0, c.if-a-to.false))
    (λ l. absurd (omega (arith, c.if-best-n.true)))

pub start_of-requires : goal.start_of-requires
start_of-requires c =
    omega (arith, c.requires.3.within, c.if-best-n.false)

pub returns-then-start_of-a : goal.returns-then-start_of-a
returns-then-start_of-a c =
    best-keep _ _ _ _ _ c.requires.3 c.requires.1 (omega (arith, c.requires.3.within, c.if-best-n.false))
    (omega (arith, c.start_of.ensures.0, c.start_of-a.ensures.0, c.if-start_of-a.true))

pub returns : goal.returns
returns c =
    best-new _ _ _ _ _ c.requires.3 c.requires.1 (omega (arith, c.length_of.ensures.0, c.if-length_of-eq0.false))
    (omega (arith, c.start_of-a.ensures.0, c.if-a-to.false))
    (λ l. omega (arith, c.start_of.ensures.0, c.start_of-a.ensures.0, c.if-start_of-a.false))
