-- The fields so far are in the list, and the next stands where the last ended. Assumes nothing.
use Rattle.value_list.proofs.Runs.{Upto}
use mathlib.Core.Path.{◌≡◌}
use lib.ListN.{length}
use Rattle.value_list.proofs.list_run.Given as goal

abbrev pub invariant-loop-m : goal.invariant-loop-m
invariant-loop-m l =
    (length l.list ≡ length l.initial.list) × Upto l.s l.storages l.run l.n l.from l.k l.initial.list l.m l.list l.at
