-- For any columns of these codes, the rest of the rows gives the whole; the rows read so far stand in the invariant
-- alone. Assumes nothing.
use Rattle.std.proofs.lemmas.Result.{err_from_is_err_and}
use Rattle.common.specs.declared.Refusal.TheVariants as refusal
use mathlib.Core.List.{[]}
use native.Mathlib.Nat.{sub-zero}
use lib.Seq.{length-take-le}
use Rattle.row_spec.specs.Schema.{columns_of}
use Rattle.row_laws.proofs.Rows.{rows-off, rows_end, rows-over}
use Rattle.row_judge.proofs.Telling.{walk-bad, walk_more}
use mathlib.Core.Path.{◌≡◌, sym, ◌∙◌}
use native.Mathlib.Omega.{arith}
use Rattle.row_judge.proofs.walk_rows.Goals as goal

pub slice_bounds-t-end : goal.slice_bounds-t-end
slice_bounds-t-end c =
    sym (length-take-le c.args.end c.args.s.now (omega arith))

pub loop-i-init : goal.loop-i-init
loop-i-init c = λ cols q. ([], simp sub-zero)

pub returns-then-little_endian-at : goal.returns-then-little_endian-at
returns-then-little_endian-at c =
    let v = c.loop-i.invariant (columns_of c.args.sc) c.codes_of-codes.ensures in
    let e = sym v.1 ∙ rows-off c.args.s.now (columns_of c.args.sc) c.args.end c.loop-i.i c.args.n c.loop-i.at v.0
    c.loop-i-test.true (λ q. c.if-little_endian-at.true (c.little_endian.ensures.0 ∙ q)) in
    rw e

pub returns-in_err-at : goal.returns-in_err-at
returns-in_err-at c =
    let v = c.loop-i.invariant (columns_of c.args.sc) c.codes_of-codes.ensures in
    let p = err_from_is_err_and c.from_residual.result c.from_residual.ensures.1 in
    let none = c.in_err-at.ensures.ok_part in
    let same = rw none at c.in_err-at.ensures.value in
    let fault : c.in_err-at.field-0.0 ≡ refusal.BlockRow = cc in
    let w = sym c.row_end.ensures ∙ none in
    let e = walk-bad c.args.s.now (columns_of c.args.sc) c.args.end c.loop-i.i c.args.n c.loop-i.at v.0 _
    c.loop-i-test.true
    (sym c.little_endian.ensures.0 ∙ c.if-little_endian-at.false)
    v.1
    (rw c.codes_of-codes.ensures at w) in
    rw (p.1, p.2, fault, e)

pub loop-i-preserved : goal.loop-i-preserved
loop-i-preserved c =
    let w = sym c.row_end.ensures ∙ c.in_ok-at.ensures.ok_part in
    λ cols q.
    let v = c.loop-i.invariant cols q in
    walk_more c.args.s.now cols c.args.end c.loop-i.i c.args.n c.loop-i.at v.0 _
    c.loop-i-test.true
    (sym c.little_endian.ensures.0 ∙ c.if-little_endian-at.false)
    v.1 _ (rw q at w)

pub returns-then-at-end : goal.returns-then-at-end
returns-then-at-end c =
    let v = c.loop-i.invariant (columns_of c.args.sc) c.codes_of-codes.ensures in
    let e = sym v.1 ∙ rows-over c.args.s.now (columns_of c.args.sc) c.args.end c.loop-i.i c.args.n c.loop-i.at v.0
    c.loop-i-test.false c.if-at-end.true in
    rw e

pub returns : goal.returns
returns c =
    let v = c.loop-i.invariant (columns_of c.args.sc) c.codes_of-codes.ensures in
    let e = sym v.1 ∙ rows_end c.args.s.now (columns_of c.args.sc) c.args.end c.loop-i.i c.args.n c.loop-i.at v.0
    c.loop-i-test.false c.if-at-end.false in
    rw e
