-- The invariant: m is the least of the values passed, so the least of m and the rest is the least of all.
-- Assumes nothing.
use Rattle.width_choice.proofs.Steps.{least_start, least_step, least-end, tail-at, tail-long}
use mathlib.Core.Path.{◌≡◌, sym, ◌∙◌}
use Prim.Native.Nat.{◌+◌, min}
use native.Mathlib.Omega.{arith}
use lib.ListN.{get_or}
use Rattle.width_choice.proofs.least_of.Goals as goal
use Rattle.width_choice.proofs.least_of.Goals.{then-d-m, else-d-m}

pub loop-d-init : goal.loop-d-init
loop-d-init c = least_start c.args.ds.now c.requires

pub loop-d-preserved : goal.loop-d-preserved
loop-d-preserved c =
    let at = tail-at c.args.ds.now c.loop-d.d-index in
    let less : c.if-d-m.m ≡ min c.loop-d.m (get_or c.args.ds.now (c.loop-d.d-index + 1) 0) =
    elim c.if-d-m.branch [ then-d-m w ↦ omega (arith, at) | else-d-m w ↦ omega (arith, at) ] in
    least_step c.args.ds.now c.loop-d.m (c.loop-d.d-index + 1) c.if-d-m.m
    (omega (arith, tail-long c.args.ds.now)) less ∙ c.loop-d.invariant

pub returns : goal.returns
returns c =
    sym (least-end _ _ (c.loop-d.d-index + 1) (omega (arith, tail-long c.args.ds.now))) ∙ c.loop-d.invariant
