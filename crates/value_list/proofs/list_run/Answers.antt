-- The fields so far are in the list, and the next stands where the last ended. Assumes nothing.
use Rattle.value_list.proofs.Runs.{upto-none, upto-more, upto_all, storage-there}
use mathlib.Core.Path.{◌≡◌, refl, ◌∙◌}
use native.Mathlib.Omega.{arith}
use Rattle.value_list.proofs.list_run.Goals as goal

pub loop-m-init : goal.loop-m-init
loop-m-init c = (refl, upto-none _ _ _ _ _ _ _)

pub offset_bounds-storages-which : goal.offset_bounds-storages-which
offset_bounds-storages-which c =
    let there = storage-there c.args.run.same c.loop-m.m c.args.n c.requires.0
    c.loop-m-test.true in
    omega (arith, c.which.ensures)

pub bounds-storages-which : goal.bounds-storages-which
bounds-storages-which c =
    rw c.which.ensures (storage-there c.args.run.same c.loop-m.m c.args.n c.requires.0
    c.loop-m-test.true)

pub loop-m-preserved : goal.loop-m-preserved
loop-m-preserved c = (
  c.put_cell.auto.list ∙ c.loop-m.invariant.0,
  upto-more _ _ _ _ _ _ _ c.loop-m.m c.loop-m.at c.loop-m.list _
      c.field_cell-c.result c.loop-m-test.true c.loop-m.invariant.1
      (rw (← c.which.ensures, ← c.is_null-null.ensures) c.field_cell-c.ensures) c.put_cell.ensures,
)

pub shape_of-list : goal.shape_of-list
shape_of-list c = c.loop-m.invariant.0

pub returns : goal.returns
returns c =
    let all : c.loop-m.m ≡ c.args.n = omega arith in
    upto_all _ _ _ _ _ _ _ _ _ (rw all at c.loop-m.invariant.1)
