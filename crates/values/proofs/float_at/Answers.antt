-- With room, the pattern of the word; else it is cut short. Assumes nothing.
use Rattle.std.proofs.lemmas.Result.{err_from_is_err_and}
use native.Mathlib.Omega.{arith}
use Rattle.row_spec.specs.Value.{stored_at}
use Rattle.values.proofs.Rooms.{room_there, no-room, with-room}
use Rattle.values.proofs.float_at.Goals as goal

pub returns-in_err-n : goal.returns-in_err-n
unfolding stored_at
returns-in_err-n c =
    let p = err_from_is_err_and c.from_residual.result c.from_residual.ensures.1 in
    rw (p.1, p.2) (no-room c.args.s.now c.args.at 4 _ _ c.in_err-n.ensures.word c.args.at 4 (omega arith) _)

pub returns : goal.returns
unfolding stored_at
returns c =
    let h = with-room c.args.s.now c.args.at 4 _ _ c.in_ok-n.ensures.word in
    rw (room_there c.args.s.now c.args.at 4 h.fits, h.next, c.float32.ensures, h.value)

pub overflow_cast-n : goal.overflow_cast-n
overflow_cast-n c =
    let h = with-room c.args.s.now c.args.at 4 _ _ c.in_ok-n.ensures.word in
    record { fits = rw h.value c.in_ok-n.ensures.small }
