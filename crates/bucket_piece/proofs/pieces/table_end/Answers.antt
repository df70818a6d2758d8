-- By what the number of entries was read as, then its bounds. Assumes nothing.
use mathlib.Core.Logic.{inl, inr}
use borrow.Author.Tests.{le-leb, lt-leb}
use Rattle.std.proofs.lemmas.Result.{err_from_is_err_and}
use Rattle.common.specs.Outcome.{need}
use Rattle.bucket_spec.specs.Piece.{table_of}
use Rattle.bucket_piece.proofs.Stored.{on-number}
use Rattle.bucket_piece.proofs.pieces.table_end.Goals as goal

pub returns-in_err-entries : goal.returns-in_err-entries
unfolding table_of
returns-in_err-entries c =
    let r = err_from_is_err_and c.from_residual.result c.from_residual.ensures.1 in
    rw (r.1, r.2, on-number, ← c.in_err-entries.ensures)

pub returns-then-entries-lt2 : goal.returns-then-entries-lt2
unfolding table_of need
returns-then-entries-lt2 c = rw (on-number, ← c.in_ok-entries.ensures) (elim c.then-entries-lt2.either [
  | inl few ↦ rw (lt-leb 2 _ few)
  | inr many ↦ rw (le-leb 2 _ many.0, lt-leb _ 255 many.1)
])

pub returns : goal.returns
unfolding table_of need
returns c =
    rw (
      on-number,
      ← c.in_ok-entries.ensures,
      le-leb 2 _ c.if-entries-lt2.false,
      le-leb _ 255 c.if-entries-gt255.false,
    )
    c.values_end.ensures
