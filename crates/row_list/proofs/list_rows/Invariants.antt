-- The rows so far are in the list, and the next starts where the last ended. Assumes nothing.
use mathlib.Core.List.{List, map}
use lib.ListN.{length, take}
use Rattle.row_spec.specs.declared.Column.{Column}
use Rattle.row_list.specs.Rows.{row_storage}
use Rattle.row_list.proofs.Rows.{Upto}
use mathlib.Core.Path.{◌≡◌}
use Prim.Native.Nat.{◌-◌, ◌*◌, ◌≤◌}
use Rattle.row_list.proofs.list_rows.Given as goal

abbrev pub invariant-loop-r : goal.invariant-loop-r
invariant-loop-r l =
    (l.r ≤ l.given) × (length l.list ≡ length l.initial.list) × (l.k ≡ l.r * (3 * l.n))
    × ((cols : List Column) → take l.n l.storages ≡ map row_storage cols
    → Upto l.s cols l.from l.given l.initial.list l.r l.list l.at l.k)

abbrev pub decreases-loop-r : goal.decreases-loop-r
decreases-loop-r l = l.given - l.r
