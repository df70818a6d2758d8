-- The first i widths are those of the first i descriptors less m.
-- Assumes nothing.
use mathlib.Core.List.{map}
use lib.ListN.{take, length}
use Rattle.bitmap_spec.specs.Form.{width}
use Rattle.bitmap_spec.specs.Output.{written}
use mathlib.Core.Path.{◌≡◌}
use Prim.Native.Nat.{◌-◌}
use Rattle.width_choice.proofs.widths_of.Given as goal

abbrev pub invariant-loop-i : goal.invariant-loop-i
invariant-loop-i l =
    (length l.ws ≡ length l.initial.ws) × (l.ws ≡ written l.initial.ws 0 (map (λ d. width (d - l.m)) (take l.i l.ds)))
