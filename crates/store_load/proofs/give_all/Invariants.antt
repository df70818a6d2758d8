-- The first k slots hold the first k entries, laid one behind the other; the sum of all fits, so the next fits too.
-- Assumes nothing.
use mathlib.Core.List.{List}
use Rattle.store_load.specs.Loading.{Loading}
use Rattle.store_load.proofs.Steps.{Reading}
use mathlib.Core.Path.{◌≡◌}
use Prim.Native.Nat.{ℕ, ◌-◌, ◌*◌, ◌≤◌}
use lib.ListN.{length}
use Rattle.store_load.proofs.give_all.Given as goal

abbrev pub invariant-loop-k : goal.invariant-loop-k
invariant-loop-k l =
    (l.k ≤ l.n) × (length l.dir ≡ 2 * l.n) × (length l.buf ≡ length l.initial.buf)
    × ((acc : List (List ℕ)) × Reading l.s l.first l.n l.k l.at acc × Loading l.n l.dir l.buf l.k l.to acc)
