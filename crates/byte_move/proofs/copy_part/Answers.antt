-- The n bytes at `to` become those that are read.
-- Assumes nothing.
use mathlib.Core.Path.{◌≡◌}
use Prim.Native.Nat.{◌+◌, ◌-◌}
use native.Mathlib.Omega.{arith}
use Rattle.bitmap_laws.proofs.Parts.{part_length}
use Rattle.byte_move.proofs.Moves.{put-part}
use Rattle.byte_move.proofs.copy_part.Goals as goal

pub returns : goal.returns
returns c =
    let n : c.args.from + c.args.n - c.args.from ≡ c.args.n = omega arith in
    put-part _ _ _ c.args.to _ (rw n at c.copy_from_slice.ensures.after)
    (omega (arith, part_length c.args.s.now c.args.from c.args.n c.requires.0))
