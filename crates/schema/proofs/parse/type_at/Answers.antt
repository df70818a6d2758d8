-- Id by id; an id past the list has no type. Assumes nothing.
use Rattle.row_laws.proofs.Schemas.{type-over}
use Rattle.row_spec.specs.Schema.{type_at, types}
use native.Mathlib.Omega.{arith}
use mathlib.Core.Path.{sym, ◌∙◌}
use Rattle.schema.proofs.parse.type_at.Goals as goal

pub returns-in-0 : goal.returns-in-0
unfolding type_at types
returns-in-0 c = c.plain_type.ensures ∙ rw c.in-0.is

pub returns-in-1 : goal.returns-in-1
unfolding type_at types
returns-in-1 c = c.plain_type-in-1.ensures ∙ rw c.in-1.is

pub returns-in-2 : goal.returns-in-2
unfolding type_at types
returns-in-2 c = c.plain_type-in-2.ensures ∙ rw c.in-2.is

pub returns-in-3 : goal.returns-in-3
unfolding type_at types
returns-in-3 c = c.plain_type-in-3.ensures ∙ rw c.in-3.is

pub returns-in-4 : goal.returns-in-4
unfolding type_at types
returns-in-4 c = c.plain_type-in-4.ensures ∙ rw c.in-4.is

pub returns-in-5 : goal.returns-in-5
unfolding type_at types
returns-in-5 c = c.plain_type-in-5.ensures ∙ rw c.in-5.is

pub returns-in-6 : goal.returns-in-6
unfolding type_at types
returns-in-6 c = c.plain_type-in-6.ensures ∙ rw c.in-6.is

pub returns-in-7 : goal.returns-in-7
unfolding type_at types
returns-in-7 c = c.plain_type-in-7.ensures ∙ rw c.in-7.is

pub returns-in-8 : goal.returns-in-8
unfolding type_at types
returns-in-8 c = c.numbered_type.ensures ∙ rw c.in-8.is

pub returns-in-9 : goal.returns-in-9
unfolding type_at types
returns-in-9 c = c.numbered_type-in-9.ensures ∙ rw c.in-9.is

pub returns-in-10 : goal.returns-in-10
unfolding type_at types
returns-in-10 c = c.plain_type-in-10.ensures ∙ rw c.in-10.is

pub returns-in-11 : goal.returns-in-11
unfolding type_at types
returns-in-11 c = c.numbered_type-in-11.ensures ∙ rw c.in-11.is

pub returns-in-12 : goal.returns-in-12
unfolding type_at types
returns-in-12 c = c.numbered_type-in-12.ensures ∙ rw c.in-12.is

pub returns-in-13 : goal.returns-in-13
unfolding type_at types
returns-in-13 c = c.plain_type-in-13.ensures ∙ rw c.in-13.is

pub returns-in-14 : goal.returns-in-14
unfolding type_at types
returns-in-14 c = c.decimal_type.ensures ∙ rw c.in-14.is

pub returns-in-15 : goal.returns-in-15
unfolding type_at types
returns-in-15 c = c.numbered_type-in-15.ensures ∙ rw c.in-15.is

pub returns-in-16 : goal.returns-in-16
unfolding type_at types
returns-in-16 c = c.numbered_type-in-16.ensures ∙ rw c.in-16.is

pub returns-in_default : goal.returns-in_default
returns-in_default c = sym (type-over c.args.s.now c.args.id c.args.at (omega arith))
