-- The answer is the outcome: a refusal sets nothing, else each output is one of its numbers. Assumes nothing.
use mir.Facts.{to_z-of_z}
use mir.Syntax.{w64}
use mathlib.Core.Path.{refl, sym}
use Rattle.common.proofs.Calls.{refused-call, found-call}
use Rattle.c_table.proofs.fields.set_field.Goals as goal

pub returns-in-Err : goal.returns-in-Err
returns-in-Err c = rw (c.in-Err.is, c.into.ensures) (refused-call _ refl)

pub returns-in-Ok : goal.returns-in-Ok
returns-in-Ok c =
    let fits = to_z-of_z {w = w64} {z = c.show-v.result.whole} (record { sfits = c.struct_told-1.given.1.0.1 }) in
    rw c.in-Ok.is (found-call _ _ refl (rw (fits, c.show-v.ensures)))
