-- Rest invariant: what the chunks that are left tell, behind the descriptors read, is what all chunks tell.
-- Assumes nothing.
use mathlib.Core.List.{[]}
use mathlib.Core.Path.{◌≡◌}
use Prim.Native.Nat.{◌-◌, ◌*◌, ◌≤◌}
use lib.ListN.{length, take}
use Rattle.bitmap_explain_spec.specs.Explain.{explained_chunks}
use Rattle.bitmap_explain_walk.proofs.chunks_fault.Given as goal

abbrev pub invariant-loop-i : goal.invariant-loop-i
invariant-loop-i l = record {
  within : l.at ≤ length l.s;
  told :
      explained_chunks l.s l.i l.at (take (l.i * 256) l.out) (l.whole - l.i) l.rest
      ≡ explained_chunks l.s 0 6 [] l.whole l.rest;
}
