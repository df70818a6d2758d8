-- Rest invariant: the containers passed, and those of the rest that are well formed, are those of the whole; so is the
-- walk over the rest, with the members counted so far.
-- Assumes nothing.
use mathlib.Core.Path.{◌≡◌}
use Prim.Native.Nat.{◌+◌, ◌*◌, ◌≤◌}
use lib.ListN.{length, take, drop}
use Rattle.common.specs.Lists.{sum}
use Rattle.bitmap_spec.specs.Judge.{size_of}
use Rattle.bitmap_spec.proofs.Reading.{walk}
use Rattle.bitmap_explain_spec.specs.Explain.{well_formed}
use Rattle.bitmap_explain_walk.proofs.containers_fault.Given as goal

abbrev pub invariant-loop-i : goal.invariant-loop-i
invariant-loop-i l = record {
  few : l.members ≤ l.i * 256;
  ends : l.at + sum size_of (drop l.i (take l.n l.d)) ≡ length l.s;
  well : l.i + well_formed l.s l.at (drop l.i (take l.n l.d)) ≡ well_formed l.s l.from (take l.n l.d);
  walks : walk l.s l.at l.members (drop l.i (take l.n l.d)) ≡ walk l.s l.from 0 (take l.n l.d);
}
