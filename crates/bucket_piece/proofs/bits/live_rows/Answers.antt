-- By the column's bitmap; the count is at most k. Assumes nothing.
use Rattle.bucket_spec.specs.Piece.{live}
use native.Mathlib.Omega.{arith}
use Rattle.bucket_piece.proofs.bits.live_rows.Goals as goal

pub returns-in-Some : goal.returns-in-Some
unfolding live
returns-in-Some c = (rw (c.in-Some.is, c.count_bits.ensures.0), omega arith)

pub returns-in-None : goal.returns-in-None
unfolding live
returns-in-None c = (rw c.in-None.is, omega arith)
