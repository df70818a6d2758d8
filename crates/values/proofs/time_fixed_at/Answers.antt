-- With room for all 12 bytes, the 4 bytes behind the count decide. Assumes nothing.
use Rattle.std.proofs.lemmas.Result.{err_from_is_err_and}
use mathlib.Core.Path.{◌≡◌}
use lib.ListN.{length}
use Prim.Native.Nat.{◌+◌, ◌≤◌}
use native.Mathlib.Omega.{arith}
use Rattle.row_spec.specs.Value.{stored_at, nanos_of}
use Rattle.values.proofs.Rooms.{room_there, no-room, with-room}
use Rattle.values.proofs.time_fixed_at.Goals as goal

pub returns-in_err-count : goal.returns-in_err-count
unfolding stored_at
returns-in_err-count c =
    let p = err_from_is_err_and c.from_residual.result c.from_residual.ensures.1 in
    rw (p.1, p.2) (no-room c.args.s.now c.args.at 8 _ _ c.in_err-count.ensures.word c.args.at 12 (omega arith) _)

pub returns-in_err-nanos : goal.returns-in_err-nanos
unfolding stored_at
returns-in_err-nanos c =
    let h = with-room c.args.s.now c.args.at 8 _ _ c.in_ok-count.ensures.word in
    let p = err_from_is_err_and c.from_residual-in_err-nanos.result c.from_residual-in_err-nanos.ensures.1 in
    let more : c.in_ok-count.count.next + 4 ≤ c.args.at + 12 = omega (arith, h.next) in
    rw (p.1, p.2) (no-room c.args.s.now c.in_ok-count.count.next 4 _ _ c.in_err-nanos.ensures.word c.args.at 12 more _)

pub overflow_cast-nanos : goal.overflow_cast-nanos
overflow_cast-nanos c =
    let g = with-room c.args.s.now c.in_ok-count.count.next 4 _ _ c.in_ok-nanos.ensures.word in
    record { fits = rw g.value c.in_ok-nanos.ensures.small }

pub returns : goal.returns
unfolding stored_at nanos_of
returns c =
    let h = with-room c.args.s.now c.args.at 8 _ _ c.in_ok-count.ensures.word in
    let g = with-room c.args.s.now c.in_ok-count.count.next 4 _ _ c.in_ok-nanos.ensures.word in
    let fits : c.args.at + 12 ≤ length c.args.s.now = omega (arith, g.fits, h.next) in
    let end : c.args.at + 12 ≡ c.in_ok-nanos.nanos.next = omega (arith, g.next, h.next) in
    rw (room_there c.args.s.now c.args.at 12 fits, ← h.value, ← h.next, ← g.value, end) c.time.ensures
