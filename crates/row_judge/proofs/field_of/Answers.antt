-- Row r of accepted rows starts at its offset. Assumes nothing.
use lib.ListN.{take}
use Rattle.row_spec.specs.Block.{row}
use lib.Seq.{length-take-le}
use Rattle.row_spec.specs.Schema.{columns_of}
use Rattle.row_judge.proofs.Telling.{told-refused, told-field}
use Rattle.row_laws.proofs.Starts.{rows_none, rows_start}
use mathlib.Core.Path.{sym}
use native.Mathlib.Omega.{arith}
use Rattle.row_judge.proofs.field_of.Goals as goal

pub returns-then-n-r : goal.returns-then-n-r
returns-then-n-r c =
    λ rs e. rows_none c.args.s.now _ c.args.end c.args.n rs e c.args.r c.args.k c.if-n-r.true

pub slice_bounds-t-end : goal.slice_bounds-t-end
slice_bounds-t-end c =
    sym (length-take-le c.args.end c.args.s.now (omega arith))

pub returns-in-Err : goal.returns-in-Err
returns-in-Err c =
    λ rs e.
    let x = rows_start c.args.s.now
    (columns_of c.args.sc) c.args.end c.args.n rs e c.args.r c.if-n-r.false in
    told-refused c.args.k _
    (row (take c.args.end c.args.s.now) (columns_of c.args.sc) c.little_endian-start.result)
    x.0 c.in-Err.ensures
    (rw c.little_endian-start.ensures.0 x.1.0)

pub returns-in-Ok : goal.returns-in-Ok
returns-in-Ok c =
    λ rs e.
    let x = rows_start
    c.args.s.now (columns_of c.args.sc) c.args.end c.args.n rs e c.args.r
    c.if-n-r.false in told-field c.args.k
    (row (take c.args.end c.args.s.now) (columns_of c.args.sc)
    c.little_endian-start.result)
    _ x.0 _ c.in-Ok.ensures
    (rw c.little_endian-start.ensures.0 x.1.0) x.1.1
