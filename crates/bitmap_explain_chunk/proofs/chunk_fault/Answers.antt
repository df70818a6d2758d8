-- 4 for the three bytes, then 5, then what arrays_fault tells of the head.
-- Assumes nothing.
use mathlib.Core.Path.{sym, ap, ◌∙◌}
use native.Mathlib.Omega.{arith}
use Rattle.bitmap_spec.specs.Judge.{widths_ok}
use Rattle.chunk_read.proofs.Answers.{head-narrow, laid}
use Rattle.bitmap_explain_chunk.proofs.Telling.{chunk4, chunk5, chunk-rest}
use Rattle.bitmap_explain_chunk.proofs.chunk_fault.Goals as goal

pub returns-then-s-at : goal.returns-then-s-at
returns-then-s-at c =
    rw c.fault_of_part.ensures (chunk4 c.args.s.now c.args.index c.args.at c.args.n c.if-s-at.true)

pub widths_ok-requires : goal.widths_ok-requires
widths_ok-requires c =
    head-narrow c.args.s.now c.args.at c.args.n _ c.head_at-h.ensures.0
    (omega (arith, c.type_inv.s c.args.at))

pub returns-then-not-widths_ok : goal.returns-then-not-widths_ok
returns-then-not-widths_ok c =
    rw c.fault_of_part-then-not-widths_ok.ensures
    (chunk5 c.args.s.now c.args.index c.args.at c.args.n c.if-s-at.false
    (ap widths_ok (sym c.head_at-h.ensures.0) ∙ sym c.widths_ok.ensures ∙ c.if-not-widths_ok.true))

pub arrays_fault-requires : goal.arrays_fault-requires
arrays_fault-requires c = (
  c.head_at-h.ensures.2,
  laid c.args.s.now c.args.at c.args.n c.head_at-h.result c.head_at-h.ensures.0
      c.head_at-h.ensures.1 c.requires.1
      c.if-s-at.false (sym c.widths_ok.ensures ∙ c.if-not-widths_ok.false),
)

pub returns : goal.returns
returns c =
    chunk-rest c.args.s.now c.args.index c.args.at c.args.n c.if-s-at.false _
    (ap widths_ok (sym c.head_at-h.ensures.0) ∙ sym c.widths_ok.ensures ∙ c.if-not-widths_ok.false)
    (rw c.head_at-h.ensures.0 at c.arrays_fault.ensures)
