-- After j slots `best` is the best of them; after all it is the one looked for.
-- Assumes nothing.
use Rattle.store_laws.proofs.Packing.{Best}
use Prim.Native.Nat.{◌-◌, ◌≤◌}
use Rattle.store_pack.proofs.next_slot.Given as goal

abbrev pub invariant-loop-j : goal.invariant-loop-j
invariant-loop-j l = (l.j ≤ l.n) × Best l.n l.dir l.to l.j l.best

abbrev pub decreases-loop-j : goal.decreases-loop-j
decreases-loop-j l = l.n - l.j
