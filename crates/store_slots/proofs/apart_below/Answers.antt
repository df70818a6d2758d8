-- Slot k lies apart from the first j slots.
-- Assumes nothing.
use mathlib.Core.Bool.{true}
use Rattle.bitmap_spec.proofs.Window.{below_or}
use mathlib.Core.Logic.{⊎_elim}
use Rattle.store_spec.specs.Store.{apart}
use Rattle.store_slots.proofs.Steps.{one-fails, all_hold}
use mathlib.Core.Path.{◌≡◌, sym, ◌∙◌}
use Prim.Native.Nat.{◌-◌}
use native.Mathlib.Omega.{arith}
use Rattle.store_slots.proofs.apart_below.Goals as goal

pub loop-j-init : goal.loop-j-init
loop-j-init c = (omega arith, λ i h. absurd (omega arith))

pub returns-then-not-two_apart : goal.returns-then-not-two_apart
returns-then-not-two_apart c =
    one-fails (apart c.args.dir.now c.args.k) _ c.loop-j.j _ c.loop-j-test.true
    c.two_apart.ensures (c.if-not-two_apart.true)

pub loop-j-preserved : goal.loop-j-preserved
loop-j-preserved c = (
  omega arith,
  λ i h.
      ⊎_elim (λ a. c.loop-j.invariant.1 i a)
      (λ a.
      let e : i ≡ c.loop-j.j = omega arith in rw e
      (sym c.two_apart.ensures ∙ c.if-not-two_apart.false))
      (below_or i c.loop-j.j),
)

pub returns : goal.returns
returns c =
    all_hold (apart c.args.dir.now c.args.k) _ c.loop-j.j c.loop-j-test.false c.loop-j.invariant.1
