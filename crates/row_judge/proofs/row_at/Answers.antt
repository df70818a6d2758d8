-- The fields read so far are a list that the loop keeps in its invariant alone; the field asked for is kept of it.
-- Assumes nothing.
use mathlib.Core.List.{[], ◌++◌, ◌∷◌}
use borrow.Author.Tests.{leb-true}
use lib.ListN.{length, length-append}
use lib.Seq.{length-take-le, get_or-take}
use Prim.Native.Nat.{◌/◌, ◌+◌, ◌<◌}
use Rattle.common.specs.Outcome.{found}
use Rattle.common.specs.Bytes.{ceil8}
use Rattle.row_spec.specs.Schema.{blank_column, columns_of}
use Rattle.row_spec.specs.declared.Field.{Field}
use Rattle.row_spec.specs.declared.Field.TheVariants.{Null}
use Rattle.row_laws.proofs.Rows.{row-short, row-spare, row-fields, fields-more, fields-end, kept_next}
use Rattle.row_spec.specs.Read.{read}
use Rattle.row_judge.specs.Told.{row_told}
use Rattle.row_judge.proofs.Telling.{fields-refused}
use mathlib.Core.Path.{refl, sym, ap, ◌∙◌}
use native.Mathlib.Omega.{arith}
use Rattle.row_judge.proofs.row_at.Goals as goal

pub returns-then-not-has : goal.returns-then-not-has
unfolding ceil8
returns-then-not-has c =
    ap (row_told c.args.col)
    (sym
    (row-short c.args.s.now (columns_of c.args.sc) c.args.at c.args.sc.count
    (length-take-le c.args.sc.count c.args.sc.columns (omega arith))
    (sym c.has.ensures ∙ c.if-not-has.true)))

pub spare_zero-requires : goal.spare_zero-requires
unfolding ceil8
spare_zero-requires c = (
  leb-true (c.args.at + (c.args.sc.count + 7) / 8) (length c.args.s.now)
      (sym c.has.ensures ∙ c.if-not-has.false),
  omega arith,
)

pub returns-then-not-spare_zero : goal.returns-then-not-spare_zero
unfolding ceil8
returns-then-not-spare_zero c =
    ap (row_told c.args.col)
    (sym
    (row-spare c.args.s.now (columns_of c.args.sc) c.args.at c.args.sc.count
    (length-take-le c.args.sc.count c.args.sc.columns (omega arith))
    (sym c.has.ensures ∙ c.if-not-has.false)
    (sym c.spare_zero.ensures ∙ c.if-not-spare_zero.true)))

pub overflow_add-next : goal.overflow_add-next
overflow_add-next c =
    omega (
      arith,
      leb-true (c.args.at + (c.args.sc.count + 7) / 8) (length c.args.s.now)
          (sym c.has.ensures ∙ c.if-not-has.false),
    )

pub loop-i-init : goal.loop-i-init
unfolding ceil8
loop-i-init c = (
  [],
  (
    refl,
    (
      refl,
      sym
          (row-fields c.args.s.now (columns_of c.args.sc) c.args.at c.args.sc.count
          (length-take-le c.args.sc.count c.args.sc.columns (omega arith))
          (sym c.has.ensures ∙ c.if-not-has.false)
          (sym c.spare_zero.ensures ∙ c.if-not-spare_zero.false)),
    ),
  ),
)

pub field_at-requires : goal.field_at-requires
field_at-requires c =
    let room = leb-true (c.args.at + (c.args.sc.count + 7) / 8) (length c.args.s.now)
    (sym c.has.ensures ∙ c.if-not-has.false) in
    omega arith

pub returns-in_default : goal.returns-in_default
returns-in_default c =
    let l = c.loop-i in
    let many = length-take-le c.args.sc.count c.args.sc.columns (omega arith) in
    let more : l.i < length (columns_of c.args.sc) = omega arith in
    let column = get_or-take c.args.sc.count c.args.sc.columns l.i blank_column c.loop-i-test.true in
    let e = rw (← column) at (sym c.field_at.ensures ∙ c.in_default.is) in
    let bad = fields-refused c.args.s.now c.args.at l.i l.next (columns_of c.args.sc) l.invariant.0 more _ e in
    ap (row_told c.args.col) (sym bad ∙ l.invariant.1.1.1)

pub loop-i-preserved : goal.loop-i-preserved
loop-i-preserved c =
    let l = c.loop-i in
    let acc = l.invariant.0 in
    let f = c.in-Ok.field.value in
    let many = length-take-le c.args.sc.count c.args.sc.columns (omega arith) in
    let more : l.i < length (columns_of c.args.sc) = omega arith in
    let column = get_or-take c.args.sc.count c.args.sc.columns l.i blank_column c.loop-i-test.true in
    let e = rw (← column) at (sym c.field_at.ensures ∙ c.in-Ok.is) in
    let rest = fields-more c.args.s.now c.args.at l.i l.next
    (columns_of c.args.sc) acc blank_column more f c.in-Ok.field.next e in
    let k = kept_next acc f c.args.col Null in (
      acc ++ (f ∷ []),
      (
        rw length-append (omega (arith, l.invariant.1.0)),
        (
          c.keep-kept.ensures ∙ sym (rw (l.invariant.1.0, ← l.invariant.1.1.0) at k),
          sym rest ∙ l.invariant.1.1.1,
        ),
      ),
    )

pub returns : goal.returns
returns c =
    let l = c.loop-i in
    let many = length-take-le c.args.sc.count c.args.sc.columns (omega arith) in
    let ends = fields-end c.args.s.now c.args.at l.i l.next (columns_of c.args.sc) l.invariant.0 (omega arith) in
    ap (λ (x : Field). found (read x l.next)) l.invariant.1.1.0
    ∙ ap (row_told c.args.col) (sym ends ∙ l.invariant.1.1.1)
