-- The invariants: the bytes passed are joined in the array and their bits counted; the bytes passed are written.
-- Assumes nothing.
use mathlib.Core.Path.{◌≡◌}
use Prim.Native.Nat.{ℕ, ◌-◌, ◌*◌, ◌≤◌, ◌<◌}
use lib.ListN.{length, get_or, take}
use Rattle.bitmap_spec.specs.Bits.{bit}
use Rattle.bitmap_spec.specs.Output.{written}
use Rattle.bitmap_spec.proofs.Tally.{tally}
use Rattle.blocks.specs.Block.{joined_bytes}
use Rattle.blocks.proofs.join16.Given as goal

abbrev pub invariant-loop-i : goal.invariant-loop-i
invariant-loop-i l =
    (l.i ≤ 16)
    × (l.ones ≤ l.i * 8)
    × (length l.v ≡ 16)
    × (l.ones ≡ tally (bit (joined_bytes l.p l.q l.w l.a l.at l.b l.bt 16)) 0 (l.i * 8))
    × ((k : ℕ) → k < l.i → get_or l.v k 0 ≡ get_or (joined_bytes l.p l.q l.w l.a l.at l.b l.bt 16) k 0)
    × ((k : ℕ) → k < l.i → get_or (joined_bytes l.p l.q l.w l.a l.at l.b l.bt 16) k 0 < 256)

abbrev pub invariant-loop-j : goal.invariant-loop-j
invariant-loop-j l =
    (l.j ≤ 16) × (length l.out ≡ length l.initial.out) × (l.out ≡ written l.initial.out l.to (take l.j l.v))

abbrev pub decreases-loop-j : goal.decreases-loop-j
decreases-loop-j l = 16 - l.j
