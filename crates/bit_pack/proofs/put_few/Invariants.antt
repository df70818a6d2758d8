-- The invariant (Packing): q bytes are out and acc has the r bits that follow them; a turn adds one value and emits a
-- whole byte.
-- Assumes nothing.
use Rattle.bit_pack.proofs.Bytes.{Packing}
use lib.ListN.{length, get_or}
use Rattle.bit_pack.proofs.put_few.Given as goal

abbrev pub invariant-loop-i : goal.invariant-loop-i
invariant-loop-i l = Packing (λ k. get_or l.vals k 0) l.w (length l.vals) l.initial.out l.out l.at l.acc l.r l.q l.i
