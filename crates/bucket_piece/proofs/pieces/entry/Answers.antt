-- The index is read in the width of the table's entries, then the entry. Assumes nothing.
use Rattle.bucket_spec.specs.Piece.{entry_of}
use Rattle.bucket_piece.proofs.pieces.entry.Goals as goal

pub returns : goal.returns
unfolding entry_of
returns c =
    rw (
      ← c.table_head-head.ensures.entries,
      ← c.index_width-w.ensures.0,
      ← c.bits_at-k.ensures.0,
      ← c.table_head-head.ensures.after,
    )
    c.nth_value.ensures
