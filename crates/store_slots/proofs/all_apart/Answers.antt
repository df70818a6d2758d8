-- The first k slots lie apart from all below them.
-- Assumes nothing.
use mathlib.Core.Bool.{true}
use Rattle.common.specs.Lists.{every, from}
use Rattle.bitmap_spec.proofs.Window.{below_or}
use mathlib.Core.Logic.{⊎_elim}
use Rattle.store_spec.specs.Store.{apart}
use Rattle.store_slots.proofs.Steps.{one-fails, all_hold}
use mathlib.Core.Path.{◌≡◌, sym, ◌∙◌}
use Prim.Native.Nat.{◌-◌}
use native.Mathlib.Omega.{arith}
use Rattle.store_slots.proofs.all_apart.Goals as goal

pub loop-k-init : goal.loop-k-init
loop-k-init c = (omega arith, λ i h. absurd (omega arith))

pub returns-then-not-apart_below : goal.returns-then-not-apart_below
returns-then-not-apart_below c =
    one-fails (λ i. every (apart c.args.dir.now i) (from 0 i)) _ c.loop-k.k _ c.loop-k-test.true
    c.apart_below.ensures (c.if-not-apart_below.true)

pub loop-k-preserved : goal.loop-k-preserved
loop-k-preserved c = (
  omega arith,
  λ i h.
      ⊎_elim (λ a. c.loop-k.invariant.1 i a)
      (λ a.
      let e : i ≡ c.loop-k.k = omega arith in rw e
      (sym c.apart_below.ensures ∙ c.if-not-apart_below.false))
      (below_or i c.loop-k.k),
)

pub returns : goal.returns
returns c =
    all_hold (λ i. every (apart c.args.dir.now i) (from 0 i)) _ c.loop-k.k c.loop-k-test.false c.loop-k.invariant.1
