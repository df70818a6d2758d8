-- The answer's cases are the outcome's. Assumes nothing.
use Rattle.c_list.specs.Outputs.{Listing}
use Rattle.c_list.proofs.Pages.{refused-page, given-page, place-fits, block_within}
use Prim.Native.Nat.{◌-◌}
use native.Mathlib.Omega.{arith}
use lib.ListN.{length}
use Rattle.c_list.proofs.block_page.Goals as goal

pub overflow_add-place : goal.overflow_add-place
overflow_add-place c =
    let fits = place-fits _ _ _ _ _ c.page.ensures (block_within c.args.schema.now c.args.block.now
    c.args.place.now (length c.args.list.now)) _ _ c.in-Ok.is in
    omega (arith, fits)

pub returns-in-Err : goal.returns-in-Err
returns-in-Err c =
    let m : Listing = record
    { list = c.args.list.now; place = c.args.place.now; given = c.args.given.now; rows = c.args.rows.now } in
    rw c.into.ensures (refused-page _ m _ _ c.page.ensures _ c.in-Err.is)

pub returns-in-Ok : goal.returns-in-Ok
returns-in-Ok c =
    let m : Listing = record
    { list = c.args.list.now; place = c.args.place.now; given = c.args.given.now; rows = c.args.rows.now } in
    given-page _ m _ _ c.page.ensures _ _ c.in-Ok.is
