-- The verdict on the rows, and the field of accepted ones. Assumes nothing.
use Rattle.std.proofs.lemmas.Result.{err_from_is_err_and}
use mathlib.Core.List.{[]}
use Rattle.row_spec.specs.Block.{rows}
use Rattle.row_spec.specs.Schema.{columns_of}
use Rattle.row_judge.proofs.Telling.{verdict-refused, verdict-accepted}
use Rattle.row_laws.proofs.Starts.{rows-many}
use Rattle.row_judge.proofs.rows_until.Goals as goal

pub returns-in_err-walk_rows : goal.returns-in_err-walk_rows
returns-in_err-walk_rows c =
    let p = err_from_is_err_and c.from_residual.result c.from_residual.ensures.1 in
    rw (p.1, p.2)
    (verdict-refused (rows c.args.s.now (columns_of c.args.sc) c.args.end 0 c.args.n 0 []) _ c.args.r c.args.k
    c.in_err-walk_rows.ensures)

pub returns : goal.returns
returns c =
    verdict-accepted
    (rows c.args.s.now (columns_of c.args.sc) c.args.end 0 c.args.n 0 []) c.args.n c.args.r c.args.k c.field_of.result
    c.in_ok-walk_rows.ensures
    (λ rs e. (rows-many c.args.s.now (columns_of c.args.sc) c.args.end c.args.n rs e, c.field_of.ensures rs e))
