-- The answer's cases are the outcome's, and its rows are the bucket's. Assumes nothing.
use Rattle.c_list.specs.Outputs.{Listing}
use Rattle.c_list.proofs.Pages.{refused-page, given-page, place-fits, bucket-within, bucket-rows}
use Prim.Native.Nat.{◌-◌}
use native.Mathlib.Omega.{arith}
use lib.ListN.{length}
use Rattle.c_list.proofs.bucket_page.Goals as goal

pub overflow_add-place : goal.overflow_add-place
overflow_add-place c =
    let fits = place-fits _ _ _ _ _ c.page.ensures (bucket-within
    c.args.schema.now c.args.rows c.args.bucket.now c.args.column c.args.place.now (length c.args.list.now)) _ _
    c.in-Ok.is in
    let many = bucket-rows _ _ _ _ _ _ _ _ _ c.page.ensures _ _
    c.in-Ok.is in
    omega (arith, fits, many)

pub returns-in-Err : goal.returns-in-Err
returns-in-Err c =
    let m : Listing = record { list = c.args.list.now; place = c.args.place.now; given = c.args.given.now; rows = c.args.rows } in
    rw c.into.ensures (refused-page _ m _ _ c.page.ensures _ c.in-Err.is)

pub returns-in-Ok : goal.returns-in-Ok
returns-in-Ok c =
    let m : Listing = record { list = c.args.list.now; place = c.args.place.now; given = c.args.given.now; rows = c.args.rows } in
    rw (bucket-rows _ _ _ _ _ _ _ _ _ c.page.ensures _ _
    c.in-Ok.is) at (given-page _ m _ _ c.page.ensures _ _
    c.in-Ok.is)
