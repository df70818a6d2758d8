-- The rest of the groups decides the whole, then the rest of the indexes. Assumes nothing.
use lib.Dec.{ltb}
use Rattle.common.specs.Lists.{from, every}
use Rattle.common.specs.Bytes.{low_bits}
use mathlib.Core.Path.{◌≡◌}
use Prim.Native.Nat.{◌-◌, ◌*◌, ◌≤◌}
use Rattle.bucket_piece.proofs.indexes.all_below.Given as goal

abbrev pub invariant-loop-g : goal.invariant-loop-g
invariant-loop-g l = (l.g ≤ l.groups) × (every (λ k. ltb (low_bits l.s l.at (k * l.w) l.w) l.e) (from (l.g * 8) (l.m - l.g * 8)) ≡ every (λ k. ltb (low_bits l.s l.at (k * l.w) l.w) l.e) (from 0 l.m))

abbrev pub decreases-loop-g : goal.decreases-loop-g
decreases-loop-g l = l.groups - l.g

abbrev pub invariant-loop-j : goal.invariant-loop-j
invariant-loop-j l = (l.j ≤ l.m) × (every (λ k. ltb (low_bits l.s l.at (k * l.w) l.w) l.e) (from l.j (l.m - l.j)) ≡ every (λ k. ltb (low_bits l.s l.at (k * l.w) l.w) l.e) (from 0 l.m))

abbrev pub decreases-loop-j : goal.decreases-loop-j
decreases-loop-j l = l.m - l.j
