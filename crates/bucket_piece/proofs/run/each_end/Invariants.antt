-- The rest of the values gives the whole. Assumes nothing.
use mathlib.Core.Path.{◌≡◌}
use mathlib.Core.List.{List}
use Prim.Native.Nat.{ℕ, ◌-◌}
use Rattle.row_spec.specs.declared.Storage.{Storage}
use Rattle.bucket_piece.specs.Stored.{stored, Ends}
use Rattle.bucket_piece.proofs.run.each_end.Given as goal

abbrev pub invariant-loop : goal.invariant-loop
invariant-loop g l =
    (s : List ℕ) (st : Storage) → Ends s st (goal.F-post g l.end)
    → stored s st (l.n - l.counter) l.p ≡ stored s st l.n l.at
