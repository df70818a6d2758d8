-- The first k slots have length 0.
-- Assumes nothing.
use Rattle.store_spec.specs.Store.{length_at}
use mathlib.Core.Path.{◌≡◌}
use Prim.Native.Nat.{ℕ, ◌-◌, ◌≤◌, ◌<◌}
use lib.ListN.{length}
use Rattle.store_load.proofs.empty_all.Given as goal

abbrev pub invariant-loop-k : goal.invariant-loop-k
invariant-loop-k l = (l.k ≤ l.n) × (length l.dir ≡ length l.initial.dir) × ((j : ℕ) → j < l.k → length_at l.dir j ≡ 0)

abbrev pub decreases-loop-k : goal.decreases-loop-k
decreases-loop-k l = l.n - l.k
