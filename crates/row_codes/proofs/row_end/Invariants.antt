-- The walk that is left ends where the whole ends; nulls holds the null bits from column i on. Assumes nothing.
use Prim.Native.Nat.{◌/◌, ◌^◌, ◌+◌, ◌-◌, ◌≤◌}
use lib.ListN.{take, drop}
use Rattle.common.specs.Bytes.{little_at}
use Rattle.row_codes.specs.Codes.{codes_end, row_end}
use mathlib.Core.Path.{◌≡◌}
use Rattle.row_codes.proofs.row_end.Given as goal

abbrev pub invariant-loop-i : goal.invariant-loop-i
invariant-loop-i l = (l.i ≤ l.n) × (l.nulls ≡ little_at l.s l.at ((l.n + 7) / 8) / 2 ^ l.i)
    × (codes_end l.s l.at l.i (drop l.i (take l.n l.codes)) l.p ≡ row_end l.s (take l.n l.codes) l.at)

abbrev pub decreases-loop-i : goal.decreases-loop-i
decreases-loop-i l = l.n - l.i
