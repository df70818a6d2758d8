-- t is the sum of the first k lengths.
-- Assumes nothing.
use Rattle.bitmap_spec.proofs.Tally.{tally}
use Rattle.store_spec.specs.Store.{length_at}
use mathlib.Core.Path.{◌≡◌}
use Prim.Native.Nat.{◌-◌, ◌*◌, ◌≤◌}
use Rattle.store_pack.proofs.used.Given as goal

abbrev pub invariant-loop-k : goal.invariant-loop-k
invariant-loop-k l = (l.k ≤ l.n) × (l.t ≤ l.k * 4294967296) × (l.t ≡ tally (length_at l.dir) 0 l.k)

abbrev pub decreases-loop-k : goal.decreases-loop-k
decreases-loop-k l = l.n - l.k
