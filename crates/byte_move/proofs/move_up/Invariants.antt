-- The invariant: the bytes from i on are at their place, and all else is as it was; those before i are read before they
-- are written over.
-- Assumes nothing.
use mathlib.Core.Path.{◌≡◌}
use Prim.Native.Nat.{◌+◌, ◌-◌, ◌≤◌}
use lib.ListN.{take, drop, length}
use Rattle.bitmap_spec.specs.Output.{written}
use Rattle.byte_move.proofs.move_up.Given as goal

abbrev pub invariant-loop-i : goal.invariant-loop-i
invariant-loop-i l =
    (l.i ≤ l.n)
    × (length l.part ≡ 1024)
    × (length l.s ≡ length l.initial.s)
    × (l.s ≡ written l.initial.s (l.to + l.i) (take (l.n - l.i) (drop (l.from + l.i) l.initial.s)))

abbrev pub decreases-loop-i : goal.decreases-loop-i
decreases-loop-i l = l.i
