-- The count so far and what is left make the whole, which a byte holds.
-- Assumes nothing.
use mathlib.Core.Path.{◌≡◌}
use Prim.Native.Nat.{◌+◌}
use lib.ListN.{length, drop}
use Rattle.width_choice.specs.Over.{over}
use Rattle.width_choice.proofs.count_over.Given as goal

abbrev pub invariant-loop-d : goal.invariant-loop-d
invariant-loop-d l = l.e + length (over l.t (drop l.d-index l.ds)) ≡ length (over l.t l.ds)
