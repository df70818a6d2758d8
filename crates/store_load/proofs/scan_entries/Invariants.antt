-- What is left to scan from `at` on gives what the whole scan gives; t is the length of the entries so far.
-- Assumes nothing.
use mathlib.Core.List.{List}
use Rattle.store_spec.specs.Store.{total}
use Rattle.store_load.proofs.Steps.{Reading}
use mathlib.Core.Path.{◌≡◌}
use Prim.Native.Nat.{ℕ, ◌-◌, ◌*◌, ◌≤◌}
use Rattle.store_load.proofs.scan_entries.Given as goal

abbrev pub invariant-loop-k : goal.invariant-loop-k
invariant-loop-k l =
    (l.k ≤ l.n) × (l.total ≤ l.k * 268390) × ((acc : List (List ℕ)) × Reading l.s l.first l.n l.k l.end acc × (l.total ≡ total acc))
