-- t is the sum of the first k entries' sizes.
-- Assumes nothing.
use Rattle.bitmap_spec.proofs.Tally.{tally}
use Rattle.store_save.specs.Size.{entry_size}
use mathlib.Core.Path.{◌≡◌}
use Prim.Native.Nat.{◌-◌, ◌*◌, ◌≤◌}
use Rattle.store_save.proofs.entries_size.Given as goal

abbrev pub invariant-loop-k : goal.invariant-loop-k
invariant-loop-k l = (l.k ≤ l.n) × (l.t ≤ l.k * 2097155) × (l.t ≡ tally (entry_size l.dir) 0 l.k)

abbrev pub decreases-loop-k : goal.decreases-loop-k
decreases-loop-k l = l.n - l.k
