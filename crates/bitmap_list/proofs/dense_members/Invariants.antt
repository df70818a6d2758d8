-- Byte by byte: after q bytes the set ones of q * 8 bits stand first in out.
-- Assumes nothing.
use lib.ListN.{length}
use mathlib.Core.Path.{◌≡◌}
use Prim.Native.Nat.{◌-◌, ◌*◌, ◌≤◌}
use Rattle.bitmap_list.specs.Post.{Spread}
use Rattle.bitmap_list.proofs.dense_members.Given as goal

abbrev pub invariant-loop-q : goal.invariant-loop-q
invariant-loop-q l = (l.q ≤ 32) × (length l.out ≡ length l.initial.out) × Spread l.s l.at l.out l.n (l.q * 8)

abbrev pub decreases-loop-q : goal.decreases-loop-q
decreases-loop-q l = 32 - l.q
