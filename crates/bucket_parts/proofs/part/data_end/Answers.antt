-- The column, its encoding and its bitmap are those of the definition. Assumes nothing.
use lib.ListN.{get_or}
use lib.Seq.{get_or-take}
use Rattle.bucket_piece.proofs.Encodings.{mapped-live}
use Rattle.row_spec.specs.Schema.{blank_column}
use Rattle.bucket_spec.specs.Piece.{piece}
use Rattle.bucket_spec.specs.Bucket.{piece_of, col_of, tag_of, mapped}
use Rattle.bucket_parts.proofs.part.data_end.Goals as goal

pub returns : goal.returns
unfolding piece_of piece col_of tag_of mapped
returns c =
    let sc = c.args.sc.now in
    let less = c.requires.1 in
    rw (
      get_or-take sc.count sc.columns c.args.i blank_column less,
      get_or-take sc.count c.args.tables.now c.args.i 0 less,
      get_or-take sc.count c.args.nulls.now c.args.i 0 less,
      ← c.encoding_of-encoding.ensures,
      ← mapped-live _ _ (get_or c.args.nulls.now c.args.i 0),
      ← c.bitmap_of-bitmap.ensures,
      ← c.live_rows-values.ensures.0,
    )
    c.data_piece.ensures
