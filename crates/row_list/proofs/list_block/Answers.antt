-- No row is given, or those from place on, which start at the offset of the first. Assumes nothing.
use Rattle.row_list.proofs.Rows.{given-fits}
use Prim.Native.Nat.{◌/◌}
use native.Mathlib.Nat.{min-le_right}
use lib.Seq.{length-take-le}
use Rattle.row_spec.specs.Schema.{columns_of}
use Rattle.row_list.proofs.Rows.{block_none, block-some}
use mathlib.Core.Path.{sym}
use Prim.Native.Nat.{◌-◌, ◌*◌}
use native.Mathlib.Omega.{arith}
use lib.ListN.{length}
use Rattle.row_list.proofs.list_block.Goals as goal

pub returns-then-given-eq0 : goal.returns-then-given-eq0
returns-then-given-eq0 c =
    let many = length-take-le c.args.sc.count c.args.sc.columns (omega arith) in (
      block_none c.args.s.now (columns_of c.args.sc) c.args.rows c.args.place (length c.args.list.now)
          c.rows_given-given.result c.args.list.now (rw many c.rows_given-given.ensures) c.if-given-eq0.true,
      omega arith,
    )

pub slice_bounds-list_rows-end : goal.slice_bounds-list_rows-end
slice_bounds-list_rows-end c =
    sym (length-take-le (length c.args.s.now - 4 - 4 * c.args.rows) c.args.s.now (omega arith))

pub list_rows-requires : goal.list_rows-requires
list_rows-requires c = (
  c.requires.1,
  c.requires.2,
  given-fits c.rows_given-given.result (length c.args.list.now) (3 * c.args.sc.count)
      (c.args.rows - c.args.place) c.rows_given-given.ensures,
)

pub returns : goal.returns
returns c =
    let many = length-take-le c.args.sc.count c.args.sc.columns (omega arith) in (
      block-some c.args.s.now (columns_of c.args.sc) c.args.rows c.args.place (length c.args.list.now)
          c.rows_given-given.result c.args.list.now
          (rw many c.rows_given-given.ensures) _ _ c.if-given-eq0.false c.little_endian-from.ensures.0
          c.list_rows.ensures,
      omega (
        arith,
        c.rows_given-given.ensures,
        min-le_right (length c.args.list.now / (3 * c.args.sc.count))
            (c.args.rows - c.args.place),
      ),
    )
