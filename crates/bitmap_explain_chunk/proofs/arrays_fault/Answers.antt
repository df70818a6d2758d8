-- Each test is the definition's next test, in its order, so each fault is the definition's.
-- Assumes nothing.
use mathlib.Core.Path.{sym, ◌∙◌}
use native.Mathlib.Omega.{arith}
use Rattle.common.specs.Bytes.{ceil8}
use Rattle.bitmap_spec.specs.Judge.{chunk_end}
use Rattle.bitmap_spec.proofs.Parts.{prod}
use Rattle.bitmap_explain_chunk.proofs.Telling.{risen-part, not-risen, all-risen, with4, with6, with7, with7b, with8}
use Rattle.bitmap_explain_spec.specs.Told.{numbers}
use Rattle.bitmap_explain_chunk.proofs.arrays_fault.Goals as goal

pub overflow_add-end-2 : goal.overflow_add-end-2
unfolding ceil8 chunk_end
overflow_add-end-2 c =
    omega (
      arith,
      c.requires.1.second,
      c.requires.1.third,
      c.requires.1.begins,
      prod 255 8 c.args.h.e c.args.h.b2 (omega (arith, c.requires.1.few)) (omega (arith, c.requires.1.widths)),
      prod 256 8 c.args.n c.args.h.b1 (omega (arith, c.requires.1.some)) (omega (arith, c.requires.1.widths)),
    )

pub returns-then-s-end : goal.returns-then-s-end
unfolding ceil8 chunk_end
returns-then-s-end c =
    rw c.fault_of_part.ensures
    (with4 c.args.s.now c.args.index c.args.at c.args.n c.args.h c.if-s-end.true)

pub returns-then-j-h : goal.returns-then-j-h
unfolding ceil8 chunk_end
returns-then-j-h c =
    rw c.fault_of_part-then-j-h.ensures
    (with6 c.args.s.now c.args.index c.args.at c.args.n c.args.h c.if-s-end.false _ (risen-part _ _ _ _ _ _ c.requires.1.third c.risen_at-j.ensures.0)
    (not-risen c.args.n c.args.s.now c.args.h.offsets c.args.h.e _ (omega (arith, c.requires.1.third, c.if-s-end.false))
    (risen-part _ _ _ _ _ _ c.requires.1.third c.risen_at-j.ensures.0) c.if-j-h.true))

pub spare_zero-requires : goal.spare_zero-requires
unfolding ceil8 chunk_end
spare_zero-requires c =
    omega (arith, c.requires.1.widths, c.requires.1.some, c.requires.1.second, c.requires.1.third, c.if-s-end.false)

pub returns-then-not-spare_zero : goal.returns-then-not-spare_zero
unfolding ceil8 chunk_end
returns-then-not-spare_zero c =
    rw c.fault_of_part-then-not-spare_zero.ensures
    (with7 c.args.s.now c.args.index c.args.at c.args.n c.args.h c.if-s-end.false
    (all-risen c.args.n c.args.s.now c.args.h.offsets c.args.h.e _ (omega (arith, c.requires.1.third, c.if-s-end.false))
    (risen-part _ _ _ _ _ _ c.requires.1.third c.risen_at-j.ensures.0) c.if-j-h.false)
    (sym c.spare_zero.ensures ∙ c.if-not-spare_zero.true))

pub returns-then-not-spare_zero-2 : goal.returns-then-not-spare_zero-2
unfolding ceil8 chunk_end
returns-then-not-spare_zero-2 c =
    rw c.fault_of_part-then-not-spare_zero-2.ensures
    (with7b c.args.s.now c.args.index c.args.at c.args.n c.args.h c.if-s-end.false
    (all-risen c.args.n c.args.s.now c.args.h.offsets c.args.h.e _ (omega (arith, c.requires.1.third, c.if-s-end.false))
    (risen-part _ _ _ _ _ _ c.requires.1.third c.risen_at-j.ensures.0) c.if-j-h.false)
    (sym c.spare_zero.ensures ∙ c.if-not-spare_zero.false)
    (sym c.spare_zero-2.ensures ∙ c.if-not-spare_zero-2.true))

pub first_over-v-requires : goal.first_over-v-requires
unfolding ceil8 chunk_end
first_over-v-requires c = (
  c.requires.0,
  c.requires.1,
  c.if-s-end.false,
  all-risen c.args.n c.args.s.now c.args.h.offsets c.args.h.e _ (omega (arith, c.requires.1.third, c.if-s-end.false))
      (risen-part _ _ _ _ _ _ c.requires.1.third c.risen_at-j.ensures.0) c.if-j-h.false,
)

pub returns : goal.returns
unfolding ceil8 chunk_end numbers
returns c =
    with8 c.args.s.now c.args.index c.args.at c.args.n c.args.h c.if-s-end.false
    (all-risen c.args.n c.args.s.now c.args.h.offsets c.args.h.e _ (omega (arith, c.requires.1.third, c.if-s-end.false))
    (risen-part _ _ _ _ _ _ c.requires.1.third c.risen_at-j.ensures.0) c.if-j-h.false)
    (sym c.spare_zero.ensures ∙ c.if-not-spare_zero.false) _ c.first_over-v.ensures
    (sym c.spare_zero-2.ensures ∙ c.if-not-spare_zero-2.false)
