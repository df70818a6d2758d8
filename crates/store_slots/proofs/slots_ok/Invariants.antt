-- The first k slots are empty or hold forms.
-- Assumes nothing.
use mathlib.Core.Bool.{true}
use Rattle.store_spec.specs.Store.{slot_ok}
use mathlib.Core.Path.{◌≡◌}
use Prim.Native.Nat.{ℕ, ◌-◌, ◌≤◌, ◌<◌}
use Rattle.store_slots.proofs.slots_ok.Given as goal

abbrev pub invariant-loop-k : goal.invariant-loop-k
invariant-loop-k l = (l.k ≤ l.n) × ((i : ℕ) → i < l.k → slot_ok l.dir l.buf i ≡ true)

abbrev pub decreases-loop-k : goal.decreases-loop-k
decreases-loop-k l = l.n - l.k
