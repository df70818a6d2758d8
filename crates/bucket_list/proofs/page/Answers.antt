-- A refusal of the schema, of the bucket, or 25; else the page of the column. Assumes nothing.
use mathlib.Core.Path.{refl}
use Rattle.std.proofs.lemmas.Result.{err_from_is_err_and}
use Rattle.row_laws.proofs.Read.{read_found}
use Rattle.bucket_parts.proofs.Bodies.{known-columns}
use Rattle.bucket_list.proofs.Pages.{page-unread, page-bad, page-absent, page-given}
use Rattle.bucket_list.proofs.page.Goals as goal

pub returns-in_err-schema : goal.returns-in_err-schema
returns-in_err-schema c =
    let r = err_from_is_err_and c.from_residual.result c.from_residual.ensures.1 in
    rw (r.1, r.2)
    (page-unread c.args.schema_bytes.now c.args.rows c.args.bucket.now c.args.column c.args.place c.args.list.now _
    c.in_err-schema.ensures)

pub judge-requires : goal.judge-requires
judge-requires c = known-columns (read_found _ _ c.in_ok-schema.ensures)

pub returns-in_err-judged : goal.returns-in_err-judged
returns-in_err-judged c =
    let r = err_from_is_err_and c.from_residual-in_err-judged.result c.from_residual-in_err-judged.ensures.1 in
    rw (r.1, r.2)
    (page-bad c.args.schema_bytes.now c.args.rows c.args.bucket.now c.args.column c.args.place c.args.list.now _
    (read_found _ _ c.in_ok-schema.ensures) _ c.in_err-judged.ensures.says)

pub returns-then-schema-column : goal.returns-then-schema-column
returns-then-schema-column c =
    page-absent c.args.schema_bytes.now c.args.rows c.args.bucket.now c.args.column c.args.place c.args.list.now _
    (read_found _ _ c.in_ok-schema.ensures) c.in_ok-judged.judged c.in_ok-judged.ensures.says c.if-schema-column.true

pub list_page-given-requires : goal.list_page-given-requires
list_page-given-requires c = record {
  columns = known-columns (read_found _ _ c.in_ok-schema.ensures);
  framed = (c.in_ok-judged.ensures.framed _ refl).has;
  there = c.if-schema-column.false;
}

pub returns : goal.returns
returns c =
    page-given c.args.schema_bytes.now c.args.rows c.args.bucket.now c.args.column c.args.place c.args.list.now _
    (read_found _ _ c.in_ok-schema.ensures) c.in_ok-judged.judged c.in_ok-judged.ensures.says c.list_page-given.result _
    c.if-schema-column.false (rw (← (c.in_ok-judged.ensures.framed _ refl).rows) c.list_page-given.ensures)
