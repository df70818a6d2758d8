-- A refusal of the schema, then of the block, then 25; else the field that was kept. Assumes nothing.
use Rattle.std.proofs.lemmas.Result.{err_from_is_err_and}
use Rattle.row_laws.proofs.Read.{read_found}
use Rattle.rows.proofs.Asking.{field-unread, field-refused, row-absent, column-absent, field_found}
use mathlib.Core.Path.{sym}
use Rattle.rows.proofs.field.Goals as goal

pub returns-in_err-schema : goal.returns-in_err-schema
returns-in_err-schema c =
    let a = c.args in
    let p = err_from_is_err_and c.from_residual.result c.from_residual.ensures.1 in
    rw (p.1, p.2)
    (sym (field-unread a.schema_bytes.now a.block.now a.row a.column _ c.in_err-schema.ensures))

pub judge-requires : goal.judge-requires
judge-requires c = let k = read_found _ _ c.in_ok-schema.ensures in (k.most, k.room)

pub returns-in_err-judged : goal.returns-in_err-judged
returns-in_err-judged c =
    let a = c.args in
    let p = err_from_is_err_and c.from_residual-in_err-judged.result c.from_residual-in_err-judged.ensures.1 in
    rw (p.1, p.2)
    (sym
    (field-refused a.schema_bytes.now a.block.now a.row a.column _ c.in_ok-schema.ensures _ c.in_err-judged.ensures))

pub returns-then-judged-row : goal.returns-then-judged-row
returns-then-judged-row c =
    let a = c.args in
    sym
    (row-absent a.schema_bytes.now a.block.now a.row a.column _ c.in_ok-schema.ensures _ c.in_ok-judged.ensures
    c.if-judged-row.true)

pub returns-then-schema-column : goal.returns-then-schema-column
returns-then-schema-column c =
    let a = c.args in
    sym
    (column-absent a.schema_bytes.now a.block.now a.row a.column _ c.in_ok-schema.ensures _ c.in_ok-judged.ensures
    c.if-judged-row.false c.if-schema-column.true)

pub returns : goal.returns
returns c =
    let a = c.args in
    sym
    (field_found a.schema_bytes.now a.block.now a.row a.column _ c.in_ok-schema.ensures _ c.in_ok-judged.ensures
    c.if-judged-row.false c.if-schema-column.false)
