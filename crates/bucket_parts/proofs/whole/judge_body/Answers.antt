-- By the tests, in the order of the definition. Assumes nothing.
use Prim.Native.Nat.{◌/◌, ◌+◌, ◌*◌}
use borrow.Author.Tests.{leb-true}
use Rattle.common.specs.Bytes.{ceil8}
use Rattle.bucket_parts.proofs.Bodies.{body-tags, body-tag-spare, body-all-null, body-bits, body-bit-spare, body-parts}
use mathlib.Core.Path.{refl, sym, ◌∙◌}
use native.Mathlib.Omega.{arith}
use lib.ListN.{length}
use Rattle.bucket_parts.proofs.whole.judge_body.Goals as goal

pub returns-then-not-has : goal.returns-then-not-has
unfolding ceil8
returns-then-not-has c = body-tags _ c.requires.0 _ _ _ _ refl (sym c.has.ensures ∙ c.if-not-has.true)

pub spare_zero-requires : goal.spare_zero-requires
unfolding ceil8
spare_zero-requires c = (
  leb-true (c.args.tags + (2 * c.args.sc.now.count + 7) / 8) (length c.args.s.now)
      (sym c.has.ensures ∙ c.if-not-has.false),
  omega (arith, c.requires.0.most),
)

pub returns-then-not-spare_zero : goal.returns-then-not-spare_zero
unfolding ceil8
returns-then-not-spare_zero c =
    body-tag-spare _ c.requires.0 _ _ _ _ refl (sym c.has.ensures ∙ c.if-not-has.false)
    (sym c.spare_zero.ensures ∙ c.if-not-spare_zero.true)

pub returns-then-not-all_allowed : goal.returns-then-not-all_allowed
unfolding ceil8
returns-then-not-all_allowed c =
    body-all-null _ c.requires.0 _ _ _ _ refl (sym c.has.ensures ∙ c.if-not-has.false)
    (sym c.spare_zero.ensures ∙ c.if-not-spare_zero.false) (sym c.all_allowed.ensures ∙ c.if-not-all_allowed.true)

pub returns-then-not-has-2 : goal.returns-then-not-has-2
unfolding ceil8
returns-then-not-has-2 c =
    body-bits _ c.requires.0 _ _ _ _ refl (sym c.has.ensures ∙ c.if-not-has.false)
    (sym c.spare_zero.ensures ∙ c.if-not-spare_zero.false) (sym c.all_allowed.ensures ∙ c.if-not-all_allowed.false)
    (sym c.has-2.ensures ∙ c.if-not-has-2.true)

pub spare_zero-requires-2 : goal.spare_zero-requires-2
unfolding ceil8
spare_zero-requires-2 c = (
  leb-true (c.args.tags + (2 * c.args.sc.now.count + 7) / 8 + (c.args.sc.now.count + 7) / 8) (length c.args.s.now)
      (sym c.has-2.ensures ∙ c.if-not-has-2.false),
  omega (arith, c.requires.0.most),
)

pub returns-then-not-spare_zero-2 : goal.returns-then-not-spare_zero-2
unfolding ceil8
returns-then-not-spare_zero-2 c =
    body-bit-spare _ c.requires.0 _ _ _ _ refl (sym c.has.ensures ∙ c.if-not-has.false)
    (sym c.spare_zero.ensures ∙ c.if-not-spare_zero.false) (sym c.all_allowed.ensures ∙ c.if-not-all_allowed.false)
    (sym c.has-2.ensures ∙ c.if-not-has-2.false) (sym c.spare_zero-2.ensures ∙ c.if-not-spare_zero-2.true)

pub returns : goal.returns
unfolding ceil8
returns c =
    body-parts _ c.requires.0 _ _ _ _ refl (sym c.has.ensures ∙ c.if-not-has.false)
    (sym c.spare_zero.ensures ∙ c.if-not-spare_zero.false) (sym c.all_allowed.ensures ∙ c.if-not-all_allowed.false)
    (sym c.has-2.ensures ∙ c.if-not-has-2.false) (sym c.spare_zero-2.ensures ∙ c.if-not-spare_zero-2.false)
    c.all_parts.result c.all_parts.ensures.says
    (λ b is. rw (c.all_parts.ensures.framed b is) (refl, record { rows = refl; has = refl }))
