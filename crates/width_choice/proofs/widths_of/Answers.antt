-- The first i widths are those of the first i descriptors less m.
-- Assumes nothing.
use mathlib.Core.List.{List, map-map}
use lib.ListN.{length-set, length}
use Rattle.bitmap_spec.specs.Form.{width}
use Rattle.bitmap_spec.specs.Output.{written}
use Rattle.width_choice.proofs.Mapping.{map-start, front-turn, map-end}
use mathlib.Core.Path.{◌≡◌, refl, sym, ap, ◌∙◌}
use Prim.Native.Nat.{ℕ, ◌-◌}
use native.Mathlib.Omega.{arith}
use Rattle.width_choice.proofs.widths_of.Goals as goal

pub loop-i-init : goal.loop-i-init
loop-i-init c =
    (refl, map-start (λ d. width (d - c.args.m)) c.args.ds.now c.args.ws.now 0)

pub loop-i-preserved : goal.loop-i-preserved
loop-i-preserved c = (
  length-set c.loop-i.ws c.loop-i.i c.width_of.result ∙ c.loop-i.invariant.0,
  front-turn (λ d. width (d - c.args.m)) c.args.ds.now c.args.ws.now c.loop-i.ws c.loop-i.i c.width_of.result
      (omega arith)
      (omega arith)
      c.width_of.ensures c.loop-i.invariant.1,
)

pub returns : goal.returns
returns c =
    let end : c.loop-i.i ≡ length c.args.ds.now = omega arith in
    let all = map-end (λ d. width (d - c.args.m)) c.args.ds.now c.args.ws.now c.loop-i.ws 0 c.loop-i.i end
    c.loop-i.invariant.1 in
    (refl, all ∙ ap (λ (x : List ℕ). written c.args.ws.now 0 x) (sym (map-map width (λ d. d - c.args.m) c.args.ds.now)))
