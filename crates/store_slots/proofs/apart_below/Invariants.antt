-- Slot k lies apart from the first j slots.
-- Assumes nothing.
use mathlib.Core.Bool.{true}
use Rattle.store_spec.specs.Store.{apart}
use mathlib.Core.Path.{◌≡◌}
use Prim.Native.Nat.{ℕ, ◌-◌, ◌≤◌, ◌<◌}
use Rattle.store_slots.proofs.apart_below.Given as goal

abbrev pub invariant-loop-j : goal.invariant-loop-j
invariant-loop-j l = (l.j ≤ l.k) × ((i : ℕ) → i < l.j → apart l.dir l.k i ≡ true)

abbrev pub decreases-loop-j : goal.decreases-loop-j
decreases-loop-j l = l.k - l.j
