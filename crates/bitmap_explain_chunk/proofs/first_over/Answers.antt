-- Rest invariant: the first over 63 of those left is the first of all; j is the first exception that is left.
-- Assumes nothing.
use mathlib.Core.Path.{sym, ◌∙◌}
use native.Mathlib.Omega.{arith}
use native.Mathlib.Nat.{sub-zero}
use Rattle.common.specs.Bytes.{ceil8}
use Rattle.bitmap_spec.specs.Judge.{descriptor, chunk_end}
use Rattle.bitmap_spec.proofs.Parts.{within}
use Rattle.bitmap_explain_chunk.proofs.Excepting.{reach-first, reach-next}
use Rattle.bitmap_explain_chunk.proofs.Telling.{over-here, over-on, over_none}
use Rattle.bitmap_explain_chunk.proofs.first_over.Goals as goal

pub loop-i-init : goal.loop-i-init
unfolding chunk_end
loop-i-init c =
    (omega arith, simp sub-zero, reach-first c.args.s.now c.args.h c.args.n (omega (arith, c.requires.1.third)) c.requires.3)

pub descriptor_at-v-requires : goal.descriptor_at-v-requires
unfolding ceil8 chunk_end
descriptor_at-v-requires c =
    let room = within c.args.n c.loop-i.i c.args.h.b1 c.loop-i-test.true in (
      c.requires.0,
      omega (arith, c.requires.1.some),
      c.requires.1.widths,
      c.requires.1.few,
      omega (arith, c.requires.1.second, c.requires.1.third, room),
      omega (arith, c.requires.1.third),
      omega arith,
      c.loop-i.invariant.2,
    )

pub returns-then-v-gt63 : goal.returns-then-v-gt63
returns-then-v-gt63 c =
    c.descriptor_at-v.ensures ∙ sym
    (over-here (descriptor c.args.s.now c.args.h) c.args.n c.loop-i.i c.loop-i-test.true
    (omega (arith, c.descriptor_at-v.ensures, c.if-v-gt63.true)))
    ∙ c.loop-i.invariant.1

pub owns-requires : goal.owns-requires
unfolding chunk_end
owns-requires c =
    omega (arith, c.requires.1.third)

pub loop-i-preserved : goal.loop-i-preserved
loop-i-preserved c = (
  omega arith,
  sym
      (over-on (descriptor c.args.s.now c.args.h) c.args.n c.loop-i.i
      c.loop-i-test.true
      (omega (arith, c.descriptor_at-v.ensures, c.if-v-gt63.false)))
      ∙ c.loop-i.invariant.1,
  reach-next c.args.s.now c.args.h c.loop-i.i c.loop-i.j c.loop-i.invariant.2 c.owns.result c.owns.ensures,
)

pub returns : goal.returns
returns c =
    sym (over_none (descriptor c.args.s.now c.args.h) c.args.n c.loop-i.i c.loop-i-test.false) ∙ c.loop-i.invariant.1
