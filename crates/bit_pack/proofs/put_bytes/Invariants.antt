-- The invariant: the first b bytes are written.
-- Assumes nothing.
use mathlib.Core.Path.{◌≡◌}
use Prim.Native.Nat.{◌%◌, ◌/◌, ◌^◌, ◌-◌, ◌*◌, ◌≤◌}
use lib.ListN.{length}
use Rattle.common.specs.Lists.{table}
use Rattle.bitmap_spec.specs.Output.{written}
use Rattle.bit_pack.proofs.put_bytes.Given as goal

abbrev pub invariant-loop-b : goal.invariant-loop-b
invariant-loop-b l = (l.b ≤ l.w) × (length l.out ≡ length l.initial.out)
    × (l.out ≡ written l.initial.out l.at (table (λ i. l.x / 2 ^ (8 * (l.w - 1 - i)) % 256) 0 l.b))
