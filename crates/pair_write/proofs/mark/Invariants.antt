-- The invariant: the bytes passed have the stamp as their mark, and all others the mark that they had.
-- Assumes nothing.
use mathlib.Core.Path.{◌≡◌}
use Prim.Native.Nat.{◌≤◌}
use lib.ListN.{take, drop, length}
use Rattle.pair_write.specs.Sides.{Marks}
use Rattle.pair_write.proofs.mark.Given as goal

abbrev pub invariant-loop-i : goal.invariant-loop-i
invariant-loop-i l =
    (l.i ≤ l.n) × (length l.marks ≡ length l.initial.marks)
    × Marks (take l.i (drop l.at l.s)) l.stamp l.initial.marks l.marks
