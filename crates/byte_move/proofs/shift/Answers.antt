-- By way of the array the bytes come to their place.
-- Assumes nothing.
use Rattle.byte_move.proofs.Moves.{by_way}
use Rattle.byte_move.proofs.shift.Goals as goal

pub returns : goal.returns
returns c =
    let args =
    c.args in
    let pre = c.requires in
    let copy-part = c.copy_part in
    by_way args.s.now args.part.now _ _ args.from args.to args.n pre.0 copy-part.ensures
    c.copy_part-2.ensures
