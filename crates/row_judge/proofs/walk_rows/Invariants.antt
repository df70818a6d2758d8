-- For any columns of these codes, the rest of the rows gives the whole; the rows read so far stand in the invariant
-- alone. Assumes nothing.
use mathlib.Core.List.{List, [], map}
use lib.ListN.{take}
use Rattle.row_spec.specs.Block.{rows}
use Rattle.row_spec.specs.declared.Column.{Column}
use Rattle.row_spec.specs.declared.Field.{Field}
use Rattle.row_codes.specs.Codes.{code_of}
use mathlib.Core.Path.{◌≡◌}
use Prim.Native.Nat.{◌-◌}
use Rattle.row_judge.proofs.walk_rows.Given as goal

abbrev pub invariant-loop-i : goal.invariant-loop-i
invariant-loop-i l =
    (cols : List Column) → take l.width l.codes ≡ map code_of cols
    → (done : List (List Field)) × (rows l.s cols l.end l.i (l.n - l.i) l.at done ≡ rows l.s cols l.end 0 l.n 0 [])
