-- Without its null bit the row is cut short; else the field's value.
-- Assumes nothing.
use mathlib.Core.Path.{sym, ◌∙◌}
use Rattle.row_walk.proofs.Walking.{handed, outside, inside}
use Rattle.row_walk.proofs.field_of.Goals as goal

pub returns-then-row-i : goal.returns-then-row-i
returns-then-row-i c = sym (outside c.args.row.now c.args.i c.args.c c.args.at c.if-row-i.true)

pub returns : goal.returns
returns c =
    rw (c.ok_or.ensures.value, c.ok.ensures.value, c.field_at.ensures)
    (handed _ ∙ sym (inside c.args.row.now c.args.i c.args.c c.args.at c.if-row-i.false))
