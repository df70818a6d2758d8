-- By the encoding. Assumes nothing.
use Rattle.bucket_spec.specs.Piece.{const_piece}
use Rattle.bucket_piece.proofs.Encodings.{not-const}
use Rattle.bucket_piece.proofs.pieces.const_piece.Goals as goal

pub returns-in-Const : goal.returns-in-Const
unfolding const_piece
returns-in-Const c = rw c.in-Const.is c.values_end.ensures

pub returns-in_default : goal.returns-in_default
unfolding const_piece
returns-in_default c = rw (not-const _ c.in_default.not-Const)
