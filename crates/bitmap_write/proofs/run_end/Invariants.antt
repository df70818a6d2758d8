-- The invariant: every position passed is below b.
-- Assumes nothing.
use Prim.Native.Nat.{ℕ, ◌-◌, ◌≤◌, ◌<◌}
use lib.ListN.{length, get_or}
use Rattle.bitmap_write.proofs.run_end.Given as goal

abbrev pub invariant-loop-j : goal.invariant-loop-j
invariant-loop-j l = (l.i ≤ l.j) × (l.j ≤ length l.ps) × ((t : ℕ) → l.i ≤ t → t < l.j → get_or l.ps t 0 < l.b)

abbrev pub decreases-loop-j : goal.decreases-loop-j
decreases-loop-j l = length l.ps - l.j
