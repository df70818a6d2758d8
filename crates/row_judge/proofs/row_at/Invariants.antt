-- The fields read so far are a list that the loop keeps in its invariant alone; the field asked for is kept of it.
-- Assumes nothing.
use mathlib.Core.List.{List}
use mathlib.Core.Path.{◌≡◌}
use lib.ListN.{length, get_or, drop}
use Rattle.row_spec.specs.Schema.{columns_of}
use Rattle.row_spec.specs.Block.{fields, row}
use Rattle.row_spec.specs.declared.Field.{Field}
use Rattle.row_spec.specs.declared.Field.TheVariants.{Null}
use Rattle.row_judge.proofs.row_at.Given as goal

abbrev pub invariant-loop-i : goal.invariant-loop-i
invariant-loop-i l =
    (acc : List Field) × ((length acc ≡ l.i) × ((l.kept ≡ get_or acc l.col Null)
    × (fields l.s l.at l.i (drop l.i (columns_of l.sc)) l.next acc ≡ row l.s (columns_of l.sc) l.at)))
