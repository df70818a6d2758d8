-- A refusal of the schema, then of the block; else its number of rows. Assumes nothing.
use Rattle.std.proofs.lemmas.Result.{err_from_is_err_and}
use Rattle.row_laws.proofs.Read.{read_found}
use Rattle.rows.proofs.Asking.{count-unread, count-refused, count-found}
use mathlib.Core.Path.{sym}
use Rattle.rows.proofs.check.Goals as goal

pub returns-in_err-schema : goal.returns-in_err-schema
returns-in_err-schema c =
    let p = err_from_is_err_and c.from_residual.result c.from_residual.ensures.1 in
    rw (p.1, p.2) (sym (count-unread c.args.schema_bytes.now c.args.block.now 0 0 _ c.in_err-schema.ensures))

pub judge-requires : goal.judge-requires
judge-requires c = let k = read_found _ _ c.in_ok-schema.ensures in (k.most, k.room)

pub returns-in_err-judge : goal.returns-in_err-judge
returns-in_err-judge c =
    let p = err_from_is_err_and c.from_residual-in_err-judge.result c.from_residual-in_err-judge.ensures.1 in
    rw (p.1, p.2)
    (sym
    (count-refused c.args.schema_bytes.now c.args.block.now 0 0 _ c.in_ok-schema.ensures _ c.in_err-judge.ensures))

pub returns : goal.returns
returns c =
    sym (count-found c.args.schema_bytes.now c.args.block.now 0 0 _ c.in_ok-schema.ensures _ c.in_ok-judge.ensures)
