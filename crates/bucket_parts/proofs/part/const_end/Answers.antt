-- The column, its encoding and its bitmap are those of the definition. Assumes nothing.
use lib.Seq.{get_or-take}
use Rattle.row_spec.specs.Schema.{blank_column}
use Rattle.bucket_spec.specs.Piece.{piece}
use Rattle.bucket_spec.specs.Bucket.{piece_of, col_of, tag_of, mapped}
use Rattle.bucket_parts.proofs.part.const_end.Goals as goal

pub returns : goal.returns
unfolding piece_of piece col_of tag_of mapped
returns c =
    let sc = c.args.sc.now in
    let column = get_or-take sc.count sc.columns c.args.i blank_column c.requires.1 in
    rw (column, ← c.encoding_of.ensures) c.const_piece.ensures
