-- A refusal of the read is the definition's; else the struct holds the columns in order. Assumes nothing.
use Rattle.std.proofs.lemmas.Result.{err_from_is_err_and}
use borrow.Author.Tests.{lt-ltb, le-ltb}
use lib.Seq.{get_or-take}
use Rattle.common.specs.Outcome.{found, need}
use Rattle.row_spec.specs.Schema.{column_of, blank_column}
use Rattle.row_laws.proofs.Read.{read-refused, read_found}
use mathlib.Core.Path.{sym, ap}
use native.Mathlib.Omega.{arith}
use Rattle.schema.proofs.column.Goals as goal

pub returns-in_err-schema : goal.returns-in_err-schema
unfolding column_of
returns-in_err-schema c =
    let p = err_from_is_err_and c.from_residual.result c.from_residual.ensures.1 in
    rw (p.1, p.2, read-refused _ _ c.in_err-schema.ensures)

pub returns-then-schema-i : goal.returns-then-schema-i
unfolding column_of need
returns-then-schema-i c =
    let k = read_found _ _ c.in_ok-schema.ensures in rw (k.is, k.count, le-ltb _ _ c.if-schema-i.true)

pub bounds-schema-i : goal.bounds-schema-i
bounds-schema-i c = let k = (read_found _ _ c.in_ok-schema.ensures).most in omega arith

pub returns : goal.returns
unfolding column_of need
returns c =
    let k = read_found _ _ c.in_ok-schema.ensures in
    rw (k.is, k.count, lt-ltb _ _ c.if-schema-i.false)
    (ap found (sym (get_or-take _ _ _ blank_column c.if-schema-i.false)))
