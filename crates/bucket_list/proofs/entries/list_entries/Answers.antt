-- The rows so far are in the list, and j is how many rows before the next are not null. Assumes nothing.
use native.Mathlib.Nat.{add-zero}
use Rattle.bucket_list.proofs.Lists.{upto-none, upto-more}
use Rattle.bucket_list.proofs.Tables.{row_listed}
use Rattle.bucket_list.proofs.Values.{step-byte, byte-small, live-few, bits-few, live-next}
use mathlib.Core.Bool.{not}
use mathlib.Core.Path.{refl, ◌∙◌}
use native.Mathlib.Omega.{arith}
use Rattle.bucket_list.proofs.entries.list_entries.Goals as goal

pub loop-m-init : goal.loop-m-init
loop-m-init c =
    (omega arith, refl, rw (add-zero c.args.x.place) c.live_rows-j.ensures.0, upto-none _ _ _)

pub overflow_mul-j : goal.overflow_mul-j
overflow_mul-j c =
    omega (
      arith,
      bits-few c.args.s.now c.args.x c.loop-m.m c.loop-m.j c.loop-m.invariant.2 c.args.w c.requires.0
          (omega (arith, c.requires.1.few, c.loop-m-test.true)),
    )

pub index_at-k-requires : goal.index_at-k-requires
index_at-k-requires c = (
  c.requires.0,
  omega (
    arith,
    bits-few c.args.s.now c.args.x c.loop-m.m c.loop-m.j c.loop-m.invariant.2 c.args.w c.requires.0
        (omega (arith, c.requires.1.few, c.loop-m-test.true)),
  ),
)

pub overflow_add-j : goal.overflow_add-j
overflow_add-j c =
    omega (
      arith,
      live-few c.args.s.now c.args.x c.loop-m.m c.loop-m.j c.loop-m.invariant.2
          (omega (arith, c.requires.1.few, c.loop-m-test.true)),
      byte-small (not c.is_null-null.result),
    )

pub loop-m-preserved : goal.loop-m-preserved
loop-m-preserved c = (
  omega arith,
  c.put_cell.auto.list ∙ c.loop-m.invariant.1,
  live-next c.args.s.now c.args.x c.loop-m.m c.loop-m.j c.loop-m.invariant.2 c.is_null-null.result
      c.is_null-null.ensures _ (step-byte c.is_null-null.result c.loop-m.j),
  upto-more _ _ _ c.loop-m.m c.loop-m.list _ c.entry_cell.result c.loop-m-test.true c.loop-m.invariant.3
      (row_listed c.args.s.now c.args.table.now c.args.w c.args.cells c.args.x c.loop-m.m c.loop-m.j
      c.index_at-k.result c.is_null-null.result c.entry_cell.result c.loop-m.invariant.2 c.is_null-null.ensures
      c.index_at-k.ensures.0 c.entry_cell.ensures)
      c.put_cell.ensures,
)
