-- The width of least cost, the count of what is wider, and the width that is left for that.
-- Assumes nothing.
use mathlib.Core.Path.{◌≡◌, ap, ◌∙◌}
use mathlib.Core.List.{map}
use Prim.Native.Nat.{ℕ, ◌-◌}
use native.Mathlib.Omega.{arith}
use lib.Dec.{eqb}
use Rattle.common.specs.Outcome.{pick}
use Rattle.bitmap_spec.specs.Form.{width, largest, cheapest}
use Rattle.width_choice.proofs.Thresholds.{less}
use Rattle.chunk_write.proofs.choose_widths.Goals as goal

pub returns : goal.returns
returns c =
    let vs = less c.args.m c.args.ds.now in
    let top = c.largest_width-w.ensures.0 in
    record {
      first = c.cheapest_at-first.ensures.0 ∙ ap (λ (n : ℕ). cheapest vs n) top;
      exceptions = c.wider_of-exceptions.ensures.0;
      few = c.wider_of-exceptions.ensures.1;
      second = c.second_of-second.ensures.0
          ∙ ap (λ (n : ℕ). pick (eqb c.wider_of-exceptions.result 0) 0 (n - c.cheapest_at-first.result)) top;
      within = omega (arith, c.second_of-second.ensures.1, top);
      narrow = omega (arith, c.largest_width-w.ensures.1, top);
    }
