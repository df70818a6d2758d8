-- The first i descriptors are at most 32, the others are as they were.
-- Assumes nothing.
use Rattle.bitmap_rewrite.proofs.Turns.{Level}
use Prim.Native.Nat.{◌≤◌}
use Rattle.bitmap_rewrite.proofs.level.Given as goal

abbrev pub invariant-loop-i : goal.invariant-loop-i
invariant-loop-i l = (l.i ≤ l.n) × Level l.initial.d l.d l.i
