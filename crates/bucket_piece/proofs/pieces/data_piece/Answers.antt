-- By the encoding. Assumes nothing.
use mathlib.Core.Logic.{inl, inr}
use Rattle.bucket_spec.specs.Piece.{data_piece}
use Rattle.bucket_piece.proofs.pieces.data_piece.Goals as goal

pub returns-in-Plain : goal.returns-in-Plain
unfolding data_piece
returns-in-Plain c = rw c.in-Plain.is c.values_end.ensures

pub returns-in-Dict : goal.returns-in-Dict
unfolding data_piece
returns-in-Dict c =
    rw (c.in-Dict.is, ← c.table_head-e.ensures.entries, ← c.index_width.ensures.0) c.indexes_end.ensures

pub returns-in-Const : goal.returns-in-Const
unfolding data_piece
returns-in-Const c = elim c.in-Const.is [ inl e ↦ rw e | inr e ↦ rw e ]
