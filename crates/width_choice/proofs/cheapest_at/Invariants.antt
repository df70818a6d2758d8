-- best is the cheapest of the widths below b. It stays so where it costs at most the low parts at the next width. Where
-- w costs less than those and two bytes more, it is best or w.
-- Assumes nothing.
use mathlib.Core.Path.{◌≡◌}
use Prim.Native.Nat.{◌+◌, ◌-◌, ◌≤◌}
use Rattle.bitmap_spec.specs.Form.{cost, cheapest}
use Rattle.width_choice.proofs.Thresholds.{less}
use Rattle.width_choice.proofs.cheapest_at.Given as goal

abbrev pub invariant-loop-b : goal.invariant-loop-b
invariant-loop-b l =
    (l.b ≤ l.w + 1) × (l.best ≤ l.b - 1) × (l.best ≡ cheapest (less l.m l.ds) (l.b - 1))
    × (l.least ≡ cost (less l.m l.ds) l.best)
