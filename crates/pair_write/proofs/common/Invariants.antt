-- The invariant: m is how many of the bytes passed have their bit set; each adds its bit.
-- Assumes nothing.
use mathlib.Core.Path.{◌≡◌}
use Prim.Native.Nat.{◌≤◌}
use lib.ListN.{length}
use Rattle.pair_write.specs.Sides.{kept}
use Rattle.pair_write.proofs.common.Given as goal

abbrev pub invariant-loop-i : goal.invariant-loop-i
invariant-loop-i l = (l.i ≤ l.n) × (l.m ≤ l.i) × (l.m ≡ length (kept l.s l.at l.i l.t l.start 1))
