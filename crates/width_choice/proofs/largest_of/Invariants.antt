-- The largest so far and the largest of what is left make the largest.
-- Assumes nothing.
use Prim.Native.Nat.{max}
use lib.ListN.{drop}
use Rattle.bitmap_spec.specs.Form.{largest}
use mathlib.Core.Path.{◌≡◌}
use Rattle.width_choice.proofs.largest_of.Given as goal

abbrev pub invariant-loop-w : goal.invariant-loop-w
invariant-loop-w l = max l.m (largest (drop l.w-index l.ws)) ≡ largest l.ws
