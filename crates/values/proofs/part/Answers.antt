-- A place lies within the bytes by the requires, and its part is cut out there; every other answer has none. Assumes
-- nothing.
use Rattle.std.specs.Prelude.{Ok}
use mathlib.Core.Path.{refl, ap, ◌∙◌}
use native.Mathlib.Omega.{arith}
use Rattle.values.proofs.Parts.{place-room, place-part, none-part, other-part}
use Rattle.row_spec.specs.Answer.{part_of}
use borrow.Author.Rules.{rules}
use Rattle.values.proofs.part.Goals as goal

pub overflow_add-start : goal.overflow_add-start
overflow_add-start c =
    let room = place-room c.args.s.now _ _ _ (c.in-Ok.is ∙ ap Ok c.in-Place.is) c.requires in omega arith

pub cut-requires : goal.cut-requires
cut-requires c =
    (search rules, place-room c.args.s.now _ _ _ (c.in-Ok.is ∙ ap Ok c.in-Place.is) c.requires)

pub returns-in-Place : goal.returns-in-Place
returns-in-Place c =
    place-part c.args.s.now _ _ _ (c.in-Ok.is ∙ ap Ok c.in-Place.is)
    c.cut.result.now c.args.s.ref_ptr c.cut.result.ref_ptr c.cut.ensures

pub returns-in-Err : goal.returns-in-Err
unfolding part_of
returns-in-Err c = rw c.in-Err.is (none-part _ _ _ refl (λ a l e. cc))

pub returns-in_default : goal.returns-in_default
returns-in_default c = rw c.in-Ok.is (other-part c.in-Ok.field _ _ c.in_default.not-Place)
