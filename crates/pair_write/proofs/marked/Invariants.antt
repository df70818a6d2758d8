-- The invariant: m is how many of the bytes passed have the stamp as their mark.
-- Assumes nothing.
use mathlib.Core.Path.{◌≡◌}
use Prim.Native.Nat.{◌≤◌}
use lib.ListN.{take, drop, length, get_or}
use lib.Dec.{eqb}
use Rattle.common.specs.Lists.{keep}
use Rattle.pair_write.proofs.marked.Given as goal

abbrev pub invariant-loop-i : goal.invariant-loop-i
invariant-loop-i l =
    (l.i ≤ l.n) × (l.m ≤ l.i) × (l.m ≡ length (keep (λ x. eqb (get_or l.marks x 0) l.stamp) (take l.i (drop l.at l.s))))
