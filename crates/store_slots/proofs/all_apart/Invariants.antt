-- The first k slots lie apart from all below them.
-- Assumes nothing.
use mathlib.Core.Bool.{true}
use Rattle.common.specs.Lists.{every, from}
use Rattle.store_spec.specs.Store.{apart}
use mathlib.Core.Path.{◌≡◌}
use Prim.Native.Nat.{ℕ, ◌-◌, ◌≤◌, ◌<◌}
use Rattle.store_slots.proofs.all_apart.Given as goal

abbrev pub invariant-loop-k : goal.invariant-loop-k
invariant-loop-k l = (l.k ≤ l.n) × ((i : ℕ) → i < l.k → every (apart l.dir i) (from 0 i) ≡ true)

abbrev pub decreases-loop-k : goal.decreases-loop-k
decreases-loop-k l = l.n - l.k
