-- The rows so far are in the list, and the next starts where the last ended. Assumes nothing.
use Rattle.row_list.proofs.Rows.{row_step}
use lib.ListN.{length}
use Rattle.row_spec.specs.Schema.{columns_of}
use Rattle.row_list.proofs.Rows.{columns-many, upto-none, upto-more, upto_all, row_room}
use mathlib.Core.Path.{◌≡◌, refl, ◌∙◌}
use Prim.Native.Nat.{◌*◌}
use native.Mathlib.Omega.{arith}
use Rattle.row_list.proofs.list_rows.Goals as goal

pub loop-r-init : goal.loop-r-init
loop-r-init c = (omega arith, refl, omega arith, λ cols stored. upto-none _ _ _ _ _)

pub list_row-at-requires : goal.list_row-at-requires
list_row-at-requires c =
    let room = row_room c.loop-r.r c.args.given (3 * c.args.sc.count) (length c.args.list.now)
    c.loop-r-test.true c.requires.2 in
    (omega arith, c.storages_of-storages.ensures.1, omega (arith, c.loop-r.invariant.1, c.loop-r.invariant.2, room))

pub overflow_add-k : goal.overflow_add-k
overflow_add-k c =
    let room = row_room c.loop-r.r c.args.given (3 * c.args.sc.count) (length c.args.list.now) c.loop-r-test.true
    c.requires.2 in
    omega (arith, c.loop-r.invariant.2, room)

pub loop-r-preserved : goal.loop-r-preserved
loop-r-preserved c = (
  omega arith,
  c.list_row-at.auto.list ∙ c.loop-r.invariant.1,
  row_step c.loop-r.r (3 * c.args.sc.count) c.loop-r.k
      c.loop-r.invariant.2,
  λ cols stored. let many = columns-many c.args.s.now c.storages_of-storages.result c.args.sc.count c.loop-r.at
      c.storages_of-storages.ensures.1 cols stored in let upto = c.loop-r.invariant.3 cols stored in rw (← many)
      (upto-more c.args.s.now cols c.args.from c.args.given c.args.list.now c.loop-r.r c.loop-r.at c.loop-r.k _
      c.loop-r.list _ _ c.loop-r-test.true upto stored c.list_row-at.ensures),
)

pub shape_of-list : goal.shape_of-list
shape_of-list c = c.loop-r.invariant.1

pub returns : goal.returns
returns c =
    let all : c.loop-r.r ≡ c.args.given = omega arith in
    upto_all _ _ _ _ _ _ _ _ (rw all at
    (c.loop-r.invariant.3 (columns_of c.args.sc) c.storages_of-storages.ensures.0))
