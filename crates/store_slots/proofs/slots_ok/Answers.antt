-- The first k slots are empty or hold forms.
-- Assumes nothing.
use mathlib.Core.Bool.{true}
use Rattle.bitmap_spec.proofs.Window.{below_or}
use mathlib.Core.Logic.{⊎_elim}
use Rattle.store_spec.specs.Store.{slot_ok}
use Rattle.store_slots.proofs.Steps.{one-fails, all_hold}
use mathlib.Core.Path.{◌≡◌, sym, ◌∙◌}
use Prim.Native.Nat.{◌-◌}
use native.Mathlib.Omega.{arith}
use Rattle.store_slots.proofs.slots_ok.Goals as goal

pub loop-k-init : goal.loop-k-init
loop-k-init c = (omega arith, λ i h. absurd (omega arith))

pub returns-then-not-slot_ok : goal.returns-then-not-slot_ok
returns-then-not-slot_ok c =
    one-fails (slot_ok c.args.dir.now c.args.buf.now) _ c.loop-k.k _ c.loop-k-test.true
    c.slot_ok.ensures (c.if-not-slot_ok.true)

pub loop-k-preserved : goal.loop-k-preserved
loop-k-preserved c = (
  omega arith,
  λ i h.
      ⊎_elim (λ a. c.loop-k.invariant.1 i a)
      (λ a.
      let e : i ≡ c.loop-k.k = omega arith in rw e
      (sym c.slot_ok.ensures ∙ c.if-not-slot_ok.false))
      (below_or i c.loop-k.k),
)

pub returns : goal.returns
returns c =
    all_hold (slot_ok c.args.dir.now c.args.buf.now) _ c.loop-k.k c.loop-k-test.false c.loop-k.invariant.1
