-- The largest so far and the largest of what is left make the largest.
-- Assumes nothing.
use Prim.Native.Nat.{max}
use lib.ListN.{get_or}
use Rattle.width_choice.proofs.Steps.{largest_step, largest-end}
use mathlib.Core.Path.{◌≡◌, sym, ◌∙◌}
use native.Mathlib.Omega.{arith}
use Rattle.width_choice.proofs.largest_of.Goals as goal
use Rattle.width_choice.proofs.largest_of.Goals.{then-m-w, else-m-w}

pub loop-w-preserved : goal.loop-w-preserved
loop-w-preserved c =
    let larger : c.if-m-w.m ≡ max c.loop-w.m (get_or c.args.ws.now c.loop-w.w-index 0) =
    elim c.if-m-w.branch [ then-m-w w ↦ omega arith | else-m-w w ↦ omega arith ] in
    largest_step c.args.ws.now c.loop-w.m c.loop-w.w-index c.if-m-w.m c.loop-w-test.true larger ∙ c.loop-w.invariant

pub returns : goal.returns
returns c = sym (largest-end _ _ c.loop-w.w-index c.loop-w-test.false) ∙ c.loop-w.invariant
