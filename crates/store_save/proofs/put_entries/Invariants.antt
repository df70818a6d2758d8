-- The entries of the first k slots are written; the rest is what is still to come.
-- Assumes nothing.
use mathlib.Core.List.{map}
use Rattle.common.specs.Lists.{from}
use Rattle.store_spec.specs.Saved.{saved}
use Rattle.store_spec.specs.Store.{entry_at, entries_of}
use Rattle.bitmap_laws.proofs.Output.{Along}
use Prim.Native.Nat.{◌-◌, ◌≤◌}
use Rattle.store_save.proofs.put_entries.Given as goal

abbrev pub invariant-loop-k : goal.invariant-loop-k
invariant-loop-k l =
    (l.k ≤ l.n)
    × Along l.initial.out l.out l.at l.t (saved (map (entry_at l.dir l.buf) (from l.k (l.n - l.k)))) (saved (entries_of l.n l.dir l.buf))

abbrev pub decreases-loop-k : goal.decreases-loop-k
decreases-loop-k l = l.n - l.k
