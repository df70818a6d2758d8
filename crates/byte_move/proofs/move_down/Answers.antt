-- The n bytes at `to` become those that are read; bytes already in their place stay.
-- Assumes nothing.
use mathlib.Core.Path.{◌∙◌}
use Rattle.byte_move.proofs.Moves.{self-written, paste-part}
use Rattle.byte_move.proofs.move_down.Goals as goal

pub returns-then-from-to : goal.returns-then-from-to
returns-then-from-to c = c.copy_within.ensures.after ∙ paste-part _ _ _ _ c.requires.1

pub returns-else-from-to : goal.returns-else-from-to
returns-else-from-to c = self-written _ _ _ _ c.if-from-to.false c.requires.1
