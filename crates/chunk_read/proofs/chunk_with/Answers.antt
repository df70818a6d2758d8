-- Each test is the definition's next test, in its order, so each answer is the definition's.
-- Assumes nothing.
use mathlib.Core.Path.{sym, ◌∙◌}
use native.Mathlib.Omega.{arith}
use Rattle.common.specs.Bytes.{ceil8}
use Rattle.bitmap_spec.specs.Judge.{chunk_end}
use Rattle.bitmap_spec.proofs.Parts.{prod}
use Rattle.chunk_read.proofs.Answers.{refuse, accept, with4, with6, with7, with7b, with8, with_all}
use Rattle.chunk_read.proofs.Answers.{offsets-inside, offsets-part}
use Rattle.chunk_read.proofs.chunk_with.Goals as goal

pub overflow_mul-end : goal.overflow_mul-end
overflow_mul-end c =
    let a = c.args in
    let h = c.requires.2 in
    omega (arith, prod 255 8 a.h.e a.h.b2 (omega arith) (omega arith))

pub overflow_add-end : goal.overflow_add-end
overflow_add-end c =
    let a = c.args in
    let h = c.requires.2 in
    omega (arith, prod 255 8 a.h.e a.h.b2 (omega arith) (omega arith))

pub overflow_add-end-2 : goal.overflow_add-end-2
unfolding ceil8 chunk_end
overflow_add-end-2 c =
    let a = c.args in
    let h = c.requires.2 in
    omega (
      arith,
      prod 255 8 a.h.e a.h.b2 (omega arith) (omega arith),
      prod 256 8 a.n a.h.b1 (omega arith) (omega arith),
    )

pub returns-then-s-end : goal.returns-then-s-end
unfolding ceil8 chunk_end
returns-then-s-end c =
    let a = c.args in
    refuse _ _ _ _ _ _ (with4 a.s.now a.n a.h c.if-s-end.true)

pub returns-then-not-is_rising : goal.returns-then-not-is_rising
unfolding ceil8 chunk_end
returns-then-not-is_rising c =
    let a = c.args in
    refuse _ _ _ _ _ _
    (with6 a.s.now a.n a.h c.if-s-end.false
    (sym (offsets-part _ _ _ _ _ _ c.requires.2.third c.is_rising.ensures) ∙ c.if-not-is_rising.true))

pub spare_zero-requires : goal.spare_zero-requires
unfolding ceil8 chunk_end
spare_zero-requires c =
    let h = c.requires.2 in
    omega (arith, h.widths, h.second, h.third, c.if-s-end.false)

pub returns-then-not-spare_zero : goal.returns-then-not-spare_zero
unfolding ceil8 chunk_end
returns-then-not-spare_zero c =
    let a = c.args in
    let room = c.if-s-end.false in
    let rising = sym (offsets-part _ _ _ _ _ _ c.requires.2.third c.is_rising.ensures) ∙ c.if-not-is_rising.false in
    let spare = sym c.spare_zero.ensures ∙ c.if-not-spare_zero.true in
    refuse _ _ _ _ _ _ (with7 a.s.now a.n a.h room rising spare)

pub returns-then-not-spare_zero-2 : goal.returns-then-not-spare_zero-2
unfolding ceil8 chunk_end
returns-then-not-spare_zero-2 c =
    let a = c.args in
    let room = c.if-s-end.false in
    let rising = sym (offsets-part _ _ _ _ _ _ c.requires.2.third c.is_rising.ensures) ∙ c.if-not-is_rising.false in
    let spare = sym c.spare_zero.ensures ∙ c.if-not-spare_zero.false in
    let second = sym c.spare_zero-2.ensures ∙ c.if-not-spare_zero-2.true in
    refuse _ _ _ _ _ _ (with7b a.s.now a.n a.h room rising spare second)

pub fill-requires : goal.fill-requires
unfolding ceil8 chunk_end
fill-requires c =
    let a = c.args in
    let h = c.requires.2 in
    let room = c.if-s-end.false in
    let rising = sym (offsets-part _ _ _ _ _ _ c.requires.2.third c.is_rising.ensures) ∙ c.if-not-is_rising.false in (
      c.requires.0,
      c.requires.1,
      record {
        widths = h.widths;
        few = h.few;
        some = h.some;
        first = omega (arith, h.second, h.third, room);
        second = omega (arith, h.third, room);
        third = omega (arith, room);
        inside = offsets-inside a.n a.s.now a.h.offsets a.h.e rising (omega (arith, h.third, room));
      },
    )

pub returns-then-not-fill : goal.returns-then-not-fill
unfolding ceil8 chunk_end
returns-then-not-fill c =
    let a = c.args in
    let room = c.if-s-end.false in
    let rising = sym (offsets-part _ _ _ _ _ _ c.requires.2.third c.is_rising.ensures) ∙ c.if-not-is_rising.false in
    let spare = sym c.spare_zero.ensures ∙ c.if-not-spare_zero.false in
    let second = sym c.spare_zero-2.ensures ∙ c.if-not-spare_zero-2.false in
    let filled = c.fill.ensures in
    let over = sym filled.says ∙ c.if-not-fill.true in
    refuse _ _ _ _ _ _ (with8 a.s.now a.n a.h room rising spare second over)

pub returns : goal.returns
unfolding ceil8 chunk_end
returns c =
    let a = c.args in
    let room = c.if-s-end.false in
    let rising = sym (offsets-part _ _ _ _ _ _ c.requires.2.third c.is_rising.ensures) ∙ c.if-not-is_rising.false in
    let spare = sym c.spare_zero.ensures ∙ c.if-not-spare_zero.false in
    let second = sym c.spare_zero-2.ensures ∙ c.if-not-spare_zero-2.false in
    let filled = c.fill.ensures in
    let ok = c.if-not-fill.false in
    let is = with_all a.s.now a.n a.h room rising spare second (sym filled.says ∙ ok) in
    accept _ _ _ _ _ _ _ is (filled.holds ok)
