-- By the encoding. Assumes nothing.
use Rattle.bucket_spec.specs.Piece.{table_piece}
use Rattle.bucket_piece.proofs.Encodings.{not-dict}
use Rattle.bucket_piece.proofs.pieces.table_piece.Goals as goal

pub returns-in-Dict : goal.returns-in-Dict
unfolding table_piece
returns-in-Dict c = rw c.in-Dict.is c.table_end.ensures

pub returns-in_default : goal.returns-in_default
unfolding table_piece
returns-in_default c = rw (not-dict _ c.in_default.not-Dict)
