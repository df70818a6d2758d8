-- With room, the count; else it is cut short. Assumes nothing.
use Rattle.std.proofs.lemmas.Result.{err_from_is_err_and}
use native.Mathlib.Omega.{arith}
use Rattle.row_spec.specs.Value.{stored_at, nanos_of}
use Rattle.values.proofs.Rooms.{room_there, no-room, with-room}
use Rattle.values.proofs.time_at.Goals as goal

pub returns-in_err-count : goal.returns-in_err-count
unfolding stored_at
returns-in_err-count c =
    let p = err_from_is_err_and c.from_residual.result c.from_residual.ensures.1 in
    rw (p.1, p.2) (no-room c.args.s.now c.args.at 8 _ _ c.in_err-count.ensures.word c.args.at 8 (omega arith) _)

pub returns : goal.returns
unfolding stored_at nanos_of
returns c =
    let h = with-room c.args.s.now c.args.at 8 _ _ c.in_ok-count.ensures.word in
    rw (room_there c.args.s.now c.args.at 8 h.fits, ← h.value, ← h.next) c.time.ensures
