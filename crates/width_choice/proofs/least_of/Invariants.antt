-- The invariant: m is the least of the values passed, so the least of m and the rest is the least of all.
-- Assumes nothing.
use lib.ListN.{drop}
use Rattle.bitmap_spec.specs.Form.{smallest, least}
use mathlib.Core.Path.{◌≡◌}
use Prim.Native.Nat.{◌+◌}
use Rattle.width_choice.proofs.least_of.Given as goal

abbrev pub invariant-loop-d : goal.invariant-loop-d
invariant-loop-d l = smallest l.m (drop (l.d-index + 1) l.ds) ≡ least l.ds
