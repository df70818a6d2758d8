-- The columns read so far stand first in the array, and the rest of the columns gives the whole. Assumes nothing.
use Rattle.std.proofs.lemmas.Result.{err_from_is_err_and}
use Prim.Native.Nat.{◌<◌}
use lib.ListN.{length, take, drop, length-set}
use native.Mathlib.Nat.{sub-zero}
use Rattle.common.specs.declared.Refusal.TheVariants as refusal
use Rattle.row_spec.specs.Schema.{held, blanks}
use Rattle.row_laws.proofs.Schemas.{columns-bad, columns-more, columns-end, columns-over, put-take, put-drop}
use Rattle.row_laws.proofs.Schemas.{held_found}
use mathlib.Core.Path.{◌≡◌, sym, ap, ◌∙◌}
use native.Mathlib.Omega.{arith}
use Rattle.schema.proofs.parse.columns.Goals as goal

pub loop-i-init : goal.loop-i-init
loop-i-init c =
    let e = c.empty-out.ensures.0 in
    record { long = ap length e; blank = ap (drop 0) e; rest = simp sub-zero }

pub returns-in_err-column : goal.returns-in_err-column
unfolding held
returns-in_err-column c =
    let l = c.loop-i in
    let p = err_from_is_err_and c.from_residual.result c.from_residual.ensures.1 in
    let none = c.in_err-column.ensures.ok_part in
    let same = rw none at c.in_err-column.ensures.value in
    let fault : c.in_err-column.field-0.0 ≡ refusal.Schema = cc in
    rw (p.1, p.2, fault)
    (ap held (sym (sym l.invariant.rest
    ∙ columns-bad _ _ _ _ _ c.loop-i-test.true (sym c.column_at.ensures ∙ none))))

pub loop-i-preserved : goal.loop-i-preserved
loop-i-preserved c =
    let l = c.loop-i in
    let h : l.i < length l.out.columns = omega (arith, l.invariant.long) in
    let m = columns-more c.args.s.now c.args.n l.i l.at (take l.i l.out.columns) c.loop-i-test.true _ _
    (sym c.column_at.ensures ∙ c.in_ok-column.ensures.ok_part) in
    record {
      long = length-set l.out.columns l.i _ ∙ l.invariant.long;
      blank = put-drop l.out.columns l.i _ h blanks l.invariant.blank;
      rest = rw (put-take l.out.columns l.i _ h) (sym m ∙ l.invariant.rest);
    }

pub returns-then-at-s : goal.returns-then-at-s
unfolding held
returns-then-at-s c =
    let l = c.loop-i in
    ap held (sym (sym l.invariant.rest ∙ columns-over _ _ _ _ _ c.loop-i-test.false c.if-at-s.true))

pub returns : goal.returns
returns c =
    let l = c.loop-i in
    let e : c.args.n ≡ l.i = omega arith in
    rw (
      ← l.invariant.rest,
      columns-end c.args.s.now c.args.n l.i l.at (take l.i l.out.columns) c.loop-i-test.false c.if-at-s.false,
      e,
    )
    (held_found l.out.columns l.i (omega (arith, l.invariant.long)) l.invariant.blank)
