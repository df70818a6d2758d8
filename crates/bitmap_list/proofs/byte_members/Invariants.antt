-- After each bit the set ones among those passed stand first in out; a bit that is not set is written over by the next.
-- Assumes nothing.
use lib.ListN.{length, get_or}
use mathlib.Core.Path.{◌≡◌}
use Prim.Native.Nat.{◌+◌, ◌-◌, ◌*◌, ◌≤◌}
use Rattle.bitmap_list.specs.Post.{Spread}
use Rattle.bitmap_list.proofs.byte_members.Given as goal

abbrev pub invariant-loop-i : goal.invariant-loop-i
invariant-loop-i l =
    (l.i ≤ 8) × (l.b ≡ get_or l.s (l.at + l.q) 0) × (length l.out ≡ length l.initial.out) × Spread l.s l.at l.out l.m (l.q * 8 + l.i)

abbrev pub decreases-loop-i : goal.decreases-loop-i
decreases-loop-i l = 8 - l.i
