-- The invariant: the first j groups are packed, w bytes each (groups-more).
-- Assumes nothing.
use mathlib.Core.Path.{◌≡◌}
use Prim.Native.Nat.{◌*◌, ◌≤◌}
use lib.ListN.{length, get_or}
use Rattle.bitmap_spec.specs.Bits.{pack_values}
use Rattle.bitmap_spec.specs.Output.{written}
use Rattle.bit_pack.proofs.put_groups.Given as goal

abbrev pub invariant-loop-j : goal.invariant-loop-j
invariant-loop-j l = (l.j ≤ l.g) × (l.q ≡ l.j * l.w) × (length l.out ≡ length l.initial.out)
    × (l.out ≡ written l.initial.out l.at (pack_values (λ i. get_or l.vals i 0) l.w (8 * l.j)))
