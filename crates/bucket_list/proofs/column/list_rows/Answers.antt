-- The column's pieces stand in the arrays where the definition has them. Assumes nothing.
use Rattle.bucket_list.proofs.Columns.{rows-shown}
use Rattle.bucket_list.proofs.column.list_rows.Goals as goal

pub returns : goal.returns
returns c =
    λ n.
    rows-shown c.args.sc.now n c.args.s.now c.args.b.now c.args.i c.args.place c.args.given c.pieces_of-p.result _ _
    c.requires.0 c.pieces_of-p.ensures c.list_column.ensures
