-- A refusal of the read is the definition's; else its count is the length of the columns. Assumes nothing.
use Rattle.std.proofs.lemmas.Result.{err_from_is_err_and}
use Rattle.common.specs.Outcome.{found}
use Rattle.row_spec.specs.Schema.{column_count}
use Rattle.row_laws.proofs.Read.{read-refused, read_found}
use mathlib.Core.Path.{sym, ap}
use native.Mathlib.Omega.{arith}
use Rattle.schema.proofs.check.Goals as goal

pub returns-in_err-read : goal.returns-in_err-read
unfolding column_count
returns-in_err-read c =
    let p = err_from_is_err_and c.from_residual.result c.from_residual.ensures.1 in
    rw (p.1, p.2, read-refused _ _ c.in_err-read.ensures)

pub overflow_cast-result : goal.overflow_cast-result
overflow_cast-result c = omega (arith, (read_found _ _ c.in_ok-read.ensures).most)

pub returns : goal.returns
unfolding column_count
returns c = let k = read_found _ _ c.in_ok-read.ensures in rw k.is (ap found (sym k.count))
