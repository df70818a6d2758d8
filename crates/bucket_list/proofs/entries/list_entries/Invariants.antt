-- The rows so far are in the list, and j is how many rows before the next are not null. Assumes nothing.
use Rattle.bucket_list.specs.Listed.{RowIs, live_at, ListedIn}
use Rattle.bucket_list.proofs.Lists.{Upto}
use mathlib.Core.Path.{◌≡◌}
use Prim.Native.Nat.{◌-◌, ◌≤◌}
use lib.ListN.{length}
use Rattle.bucket_list.proofs.entries.list_entries.Given as goal

abbrev pub invariant-loop-m : goal.invariant-loop-m
invariant-loop-m l =
    (l.m ≤ l.x.given) × (length l.list ≡ length l.initial.list) × (l.j ≡ live_at l.s l.x l.m)
    × Upto (RowIs (ListedIn l.s l.table l.w l.cells) l.s l.x) l.x.given l.initial.list l.m l.list

abbrev pub decreases-loop-m : goal.decreases-loop-m
decreases-loop-m l = l.x.given - l.m
