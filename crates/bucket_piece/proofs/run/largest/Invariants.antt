-- The loop keeps a byte that is over 1 if one of those passed is. Assumes nothing.
use Prim.Native.Nat.{◌≤◌}
use Rattle.bucket_piece.specs.Stored.{Small}
use Rattle.bucket_piece.proofs.run.largest.Given as goal

abbrev pub invariant-loop-b : goal.invariant-loop-b
invariant-loop-b l = (l.most ≤ 1 → Small l.bytes 0 l.b-index) × (Small l.bytes 0 l.b-index → l.most ≤ 1)
