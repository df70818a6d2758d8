-- A refusal of the schema, then of the block; else the rows that were listed. Assumes nothing.
use Rattle.std.proofs.lemmas.Result.{err_from_is_err_and}
use Rattle.row_laws.proofs.Read.{read_found}
use Rattle.row_list.proofs.Asking.{page-unread, page-refused, rows-there, page-found}
use native.Mathlib.Omega.{arith}
use Rattle.row_list.proofs.page.Goals as goal

pub returns-in_err-schema : goal.returns-in_err-schema
returns-in_err-schema c =
    let a = c.args in
    let p = err_from_is_err_and c.from_residual.result c.from_residual.ensures.1 in
    rw (p.1, p.2) (page-unread a.schema_bytes.now a.block.now a.place a.list.now _ c.in_err-schema.ensures)

pub judge-requires : goal.judge-requires
judge-requires c = let k = read_found c.args.schema_bytes.now _ c.in_ok-schema.ensures in (k.most, k.room)

pub returns-in_err-judged : goal.returns-in_err-judged
returns-in_err-judged c =
    let a = c.args in
    let p = err_from_is_err_and c.from_residual-in_err-judged.result c.from_residual-in_err-judged.ensures.1 in
    rw (p.1, p.2)
    (page-refused a.schema_bytes.now a.block.now a.place a.list.now _ c.in_ok-schema.ensures _ c.in_err-judged.ensures)

pub list_block-given-requires : goal.list_block-given-requires
list_block-given-requires c =
    let a = c.args in
    let k = read_found a.schema_bytes.now _ c.in_ok-schema.ensures in
    let there = rows-there a.schema_bytes.now a.block.now a.place a.list.now _ c.in_ok-schema.ensures _
    c.in_ok-judged.ensures in
    (k.some, k.most, k.room, there.0, there.1)

pub overflow_cast-result : goal.overflow_cast-result
overflow_cast-result c =
    let a = c.args in
    let there = rows-there a.schema_bytes.now a.block.now a.place a.list.now _ c.in_ok-schema.ensures _
    c.in_ok-judged.ensures in
    omega (arith, c.list_block-given.ensures.1, there.0)

pub shape_of-list : goal.shape_of-list
shape_of-list c = c.list_block-given.auto.list

pub returns : goal.returns
returns c =
    let a = c.args in
    page-found a.schema_bytes.now a.block.now a.place a.list.now _ c.in_ok-schema.ensures _ c.in_ok-judged.ensures _ _
    c.list_block-given.ensures.0
