-- The storages made so far are those of the columns passed. Assumes nothing.
use mathlib.Core.List.{map}
use lib.ListN.{length, take}
use Rattle.row_list.specs.Rows.{row_storage}
use mathlib.Core.Path.{◌≡◌}
use Prim.Native.Nat.{◌-◌, ◌≤◌}
use Rattle.row_list.proofs.storages_of.Given as goal

abbrev pub invariant-loop-i : goal.invariant-loop-i
invariant-loop-i l =
    (l.i ≤ l.n) × (length l.storages ≡ 64) × (take l.i l.storages ≡ map row_storage (take l.i l.sc.columns))

abbrev pub decreases-loop-i : goal.decreases-loop-i
decreases-loop-i l = l.n - l.i
