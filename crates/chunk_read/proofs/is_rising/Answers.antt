-- Rest invariant: what is left of the offsets, from the last value on, rises exactly if the whole does.
-- Assumes nothing.
use mathlib.Core.Path.{◌≡◌, sym, ◌∙◌}
use mathlib.Core.Bool.{true}
use mathlib.Core.List.{List}
use Prim.Native.Nat.{ℕ, ◌+◌, ◌≤◌, ◌<◌}
use native.Mathlib.Numerals.{add-one}
use borrow.Author.Tests.{lt-leb, le-leb, lt-ltb, le-ltb}
use lib.Dec.{leb, ltb}
use lib.ListN.{length, get_or, drop, drop_of_length-le}
use lib.Seq.{drop-cons}
use Rattle.common.specs.Lists.{rising}
use Rattle.common.specs.Outcome.{both}
use Rattle.chunk_read.proofs.is_rising.Goals as goal

module _ (n low : ℕ) (l : List ℕ) (i : ℕ) where
  next : i < length l
      → rising n low (drop i l) ≡ both (both (leb low (get_or l i 0)) (ltb (get_or l i 0) n))
      (rising n (get_or l i 0 + 1) (drop (i + 1) l))
  unfolding rising
  next h = rw (add-one i, add-one (get_or l i 0), drop-cons l i 0 h)

  none : length l ≤ i → rising n low (drop i l) ≡ true
  unfolding rising
  none h = rw (drop_of_length-le l {i = i} h)

pub returns-then-offset-low : goal.returns-then-offset-low
returns-then-offset-low c =
    sym (sym c.loop-x.invariant ∙ next _ _ _ _ c.loop-x-test.true ∙ rw (lt-leb _ _ c.if-offset-low.true))

pub returns-then-n-offset : goal.returns-then-n-offset
returns-then-n-offset c =
    sym
    (sym c.loop-x.invariant ∙ next _ _ _ _ c.loop-x-test.true
    ∙ rw (le-leb _ _ c.if-offset-low.false, le-ltb _ _ c.if-n-offset.true))

pub loop-x-preserved : goal.loop-x-preserved
loop-x-preserved c =
    sym
    (next _ _ _ _ c.loop-x-test.true
    ∙ rw (le-leb _ _ c.if-offset-low.false, lt-ltb _ _ c.if-n-offset.false))
    ∙ c.loop-x.invariant

pub returns : goal.returns
returns c = sym (none _ _ _ _ c.loop-x-test.false) ∙ c.loop-x.invariant
