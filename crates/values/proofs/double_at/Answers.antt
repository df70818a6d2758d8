-- With room, the pattern of the word; else it is cut short. Assumes nothing.
use Rattle.std.proofs.lemmas.Result.{err_from_is_err_and}
use native.Mathlib.Omega.{arith}
use Rattle.row_spec.specs.Value.{stored_at}
use Rattle.values.proofs.Rooms.{room_there, no-room, with-room}
use Rattle.values.proofs.double_at.Goals as goal

pub returns-in_err-n : goal.returns-in_err-n
unfolding stored_at
returns-in_err-n c =
    let p = err_from_is_err_and c.from_residual.result c.from_residual.ensures.1 in
    rw (p.1, p.2) (no-room c.args.s.now c.args.at 8 _ _ c.in_err-n.ensures.word c.args.at 8 (omega arith) _)

pub returns : goal.returns
unfolding stored_at
returns c =
    let h = with-room c.args.s.now c.args.at 8 _ _ c.in_ok-n.ensures.word in
    rw (room_there c.args.s.now c.args.at 8 h.fits, h.next, c.float64.ensures, h.value)
