-- The codes made so far are those of the columns passed. Assumes nothing.
use mathlib.Core.List.{map}
use lib.ListN.{take, length}
use Rattle.row_codes.specs.Codes.{code_of}
use mathlib.Core.Path.{◌≡◌}
use Prim.Native.Nat.{◌-◌, ◌≤◌}
use Rattle.row_codes.proofs.codes_of.Given as goal

abbrev pub invariant-loop-i : goal.invariant-loop-i
invariant-loop-i l = (l.i ≤ l.n) × (length l.codes ≡ 64) × (take l.i l.codes ≡ map code_of (take l.i l.sc.columns))

abbrev pub decreases-loop-i : goal.decreases-loop-i
decreases-loop-i l = l.n - l.i
