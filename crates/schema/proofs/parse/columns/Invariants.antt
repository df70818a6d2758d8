-- The columns read so far stand first in the array, and the rest of the columns gives the whole. Assumes nothing.
use mathlib.Core.List.{[]}
use Prim.Native.Nat.{◌-◌}
use lib.ListN.{length, take, drop}
use Rattle.row_spec.specs.Schema.{columns_from, blanks}
use mathlib.Core.Path.{◌≡◌}
use Rattle.schema.proofs.parse.columns.Given as goal

abbrev pub invariant-loop-i : goal.invariant-loop-i
invariant-loop-i l = record {
  long : length l.out.columns ≡ 64;
  blank : drop l.i l.out.columns ≡ drop l.i blanks;
  rest : columns_from l.s (l.n - l.i) l.at (take l.i l.out.columns) ≡ columns_from l.s l.n l.from [];
}
