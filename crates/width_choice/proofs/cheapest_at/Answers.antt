-- best is the cheapest of the widths below b. It stays so where it costs at most the low parts at b. Where
-- w costs less than those and two bytes more, it is best or w.
-- Assumes nothing.
use mathlib.Core.Path.{◌≡◌, refl, sym, ◌∙◌}
use Prim.Native.Nat.{◌+◌, ◌-◌, ◌*◌, ◌≤◌, ◌<◌}
use native.Mathlib.Omega.{arith}
use lib.Dec.{ltb}
use lib.ListN.{length}
use Rattle.common.specs.Bytes.{ceil8}
use Rattle.bitmap_spec.specs.Form.{cost, cheapest}
use Rattle.bitmap_laws.proofs.Values.{pick-le}
use Rattle.width_choice.proofs.Steps.{cheapest-on, cheapest-off}
use Rattle.width_choice.proofs.Stops.{cheapest-stop, cheapest-over}
use Rattle.width_choice.proofs.Thresholds.{less, length-less, cost-most}
use Rattle.width_choice.proofs.cheapest_at.Goals as goal
use Rattle.width_choice.proofs.cheapest_at.Goals.{then-c-least, else-c-least}

pub loop-b-init : goal.loop-b-init
unfolding cheapest
loop-b-init c = (omega arith, omega arith, refl, c.cost_at-least.ensures)

pub returns-then-least-low : goal.returns-then-least-low
returns-then-least-low c =
    let vs = less c.args.m c.args.ds.now in
    let b = c.loop-b.b - 1 in
    let up : b + 1 ≡ c.loop-b.b = omega arith in
    let rest : b + (c.args.w - b) ≡ c.args.w = omega arith in
    let least : cost vs (cheapest vs b) ≤ ceil8 (length vs * (b + 1)) =
    rw (← c.loop-b.invariant.2, ← length-less c.args.m c.args.ds.now, up)
    (omega (arith, c.packed_size-low.ensures.0, c.loop-b.invariant.3, c.if-least-low.true)) in
    (c.loop-b.invariant.2 ∙ sym (rw rest at (cheapest-stop vs b (c.args.w - b) least)), omega arith)

pub returns-then-top-low : goal.returns-then-top-low
returns-then-top-low c =
    let vs = less c.args.m c.args.ds.now in
    let b = c.loop-b.b - 1 in
    let up : b + 1 ≡ c.loop-b.b = omega arith in
    let long = length-less c.args.m c.args.ds.now in
    let high : c.packed_size-top.result ≡ cost vs c.args.w =
    c.packed_size-top.ensures.0 ∙ cost-most vs _ c.args.w long c.requires.2 in
    let less : cost vs c.args.w < ceil8 (length vs * (b + 1)) + 2 =
    rw (← high, ← long, up) (omega (arith, c.packed_size-low.ensures.0, c.if-top-low.true)) in
    let over = cheapest-over vs c.args.w b c.requires.2 (omega arith) less in (
      c.cheaper.ensures ∙ rw (high, c.loop-b.invariant.3, c.loop-b.invariant.2) (sym over),
      rw c.cheaper.ensures
          (pick-le (ltb c.packed_size-top.result c.loop-b.least) c.args.w c.loop-b.best c.args.w (omega arith)
          (omega arith)),
    )

pub loop-b-preserved : goal.loop-b-preserved
loop-b-preserved c =
    let vs = less c.args.m c.args.ds.now in
    let b = c.loop-b.b - 1 in
    let up : b + 1 ≡ c.loop-b.b = omega arith in
    let next : c.loop-b.b + 1 - 1 ≡ b + 1 = omega arith in
    let is : c.cost_at-c.result ≡ cost vs (b + 1) = rw up c.cost_at-c.ensures in
    elim c.if-c-least.branch [
      | then-c-least w ↦ rw (w.best-is, w.least-is, next) (
        omega arith,
        omega arith,
        sym up ∙ sym (cheapest-on vs b
            (rw (← c.loop-b.invariant.2) (omega (arith, is, c.loop-b.invariant.3, w.if-c-least.true)))),
        c.cost_at-c.ensures,
      )
      | else-c-least w ↦ rw (w.best-is, w.least-is, next) (
        omega arith,
        omega arith,
        c.loop-b.invariant.2 ∙ sym (cheapest-off vs b
            (rw (← c.loop-b.invariant.2) (omega (arith, is, c.loop-b.invariant.3, w.if-c-least.false)))),
        c.loop-b.invariant.3,
      )
    ]
