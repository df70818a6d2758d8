-- The invariant: of the members passed those that are kept stand at out[to] and on.
-- Assumes nothing.
use mathlib.Core.List.{◌++◌}
use mathlib.Core.Path.{◌≡◌}
use Prim.Native.Nat.{◌+◌, ◌≤◌}
use lib.ListN.{take, length}
use Rattle.pair_write.specs.Sides.{kept}
use Rattle.pair_write.proofs.filter.Given as goal

abbrev pub invariant-loop-i : goal.invariant-loop-i
invariant-loop-i l =
    (l.i ≤ l.n)
    × (l.m ≤ l.i)
    × (length l.out ≡ length l.initial.out)
    × (l.m ≡ length (kept l.s l.at l.i l.t l.start l.want))
    × (take (l.to + l.m) l.out ≡ take l.to l.initial.out ++ kept l.s l.at l.i l.t l.start l.want)
