-- All that starts before `to` is in place, and the next to move starts first of the rest, so nothing is written over
-- before it is read. The measure is what is left of the buffer.
-- Assumes nothing.
use Rattle.store_laws.proofs.Packing.{Packing, Best}
use Prim.Native.Nat.{◌-◌, ◌≤◌}
use lib.ListN.{length}
use Rattle.store_pack.proofs.pack.Given as goal

abbrev pub invariant-loop-k : goal.invariant-loop-k
invariant-loop-k l = (l.to ≤ length l.buf) × Packing l.n l.initial.dir l.initial.buf l.dir l.buf l.to × Best l.n l.dir l.to l.n l.k

abbrev pub decreases-loop-k : goal.decreases-loop-k
decreases-loop-k l = length l.buf - l.to
