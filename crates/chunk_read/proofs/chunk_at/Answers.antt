-- 4 for the three bytes, then 5, then what chunk_with says of the head.
-- Assumes nothing.
use mathlib.Core.Path.{sym, ap, ◌∙◌}
use native.Mathlib.Omega.{arith}
use Rattle.bitmap_spec.specs.Judge.{widths_ok}
use Rattle.chunk_read.proofs.Answers.{refuse, chunk4, chunk5, chunk-rest, head-narrow, laid}
use Rattle.chunk_read.proofs.chunk_at.Goals as goal

pub returns-then-s-at : goal.returns-then-s-at
returns-then-s-at c =
    let args = c.args in
    refuse _ _ _ _ _ _ (chunk4 args.s.now args.at args.n c.if-s-at.true)

pub widths_ok-requires : goal.widths_ok-requires
widths_ok-requires c =
    let args = c.args in
    let shared-slice-known = c.type_inv.s in
    head-narrow args.s.now args.at args.n _ c.head_at-h.ensures.0
    (omega (arith, shared-slice-known args.at))

pub returns-then-not-widths_ok : goal.returns-then-not-widths_ok
returns-then-not-widths_ok c =
    let args = c.args in
    let if1 = c.if-s-at in
    refuse _ _ _ _ _ _
    (chunk5 args.s.now args.at args.n if1.false
    (ap widths_ok (sym c.head_at-h.ensures.0) ∙ sym c.widths_ok.ensures ∙
    c.if-not-widths_ok.true))

pub chunk_with-requires : goal.chunk_with-requires
chunk_with-requires c =
    let args = c.args in
    let if1 = c.if-s-at in
    let head_at = c.head_at-h in (
      head_at.ensures.2,
      omega arith,
      laid args.s.now args.at args.n head_at.result head_at.ensures.0 head_at.ensures.1
          (omega arith) if1.false
          (sym c.widths_ok.ensures ∙ c.if-not-widths_ok.false),
    )

pub returns : goal.returns
returns c =
    let e = c.head_at-h.ensures.0 in
    let q = chunk-rest c.args.s.now
    c.args.at
    c.args.n
    c.if-s-at.false
    (ap widths_ok (sym e) ∙ sym c.widths_ok.ensures ∙ c.if-not-widths_ok.false) in
    rw (q, ← e) c.chunk_with.ensures
