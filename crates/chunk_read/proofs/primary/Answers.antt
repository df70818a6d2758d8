-- No bits; or whole groups and the values behind them.
-- Assumes nothing.
use mathlib.Core.Path.{◌∙◌}
use Prim.Native.Nat.{◌*◌, ◌/◌}
use native.Mathlib.Omega.{arith}
use Rattle.chunk_read.proofs.Writing.{alike, joined}
use Rattle.chunk_read.proofs.Cutting.{whole_room, none-plain}
use Rattle.chunk_read.proofs.primary.Goals as goal

pub repeat_few-requires : goal.repeat_few-requires
repeat_few-requires c =
    let pre = c.requires in
    (pre.0, pre.1)

pub shape_of-out-then-n-lt8 : goal.shape_of-out-then-n-lt8
shape_of-out-then-n-lt8 c = c.repeat_few.auto.out

pub returns-then-n-lt8 : goal.returns-then-n-lt8
returns-then-n-lt8 c =
    let args = c.args in
    let none = c.if-h-eq0.true in
    alike _ _ _ _ _ _ _
    (λ t. none-plain args.s.now args.h.primary args.h.b1 args.h.m t none)
    c.repeat_few.ensures

pub repeat-requires : goal.repeat-requires
repeat-requires c = (c.requires.0, omega arith, c.requires.1)

pub shape_of-out-then-h-eq0 : goal.shape_of-out-then-h-eq0
shape_of-out-then-h-eq0 c = c.repeat.auto.out

pub returns-then-h-eq0 : goal.returns-then-h-eq0
returns-then-h-eq0 c =
    let args = c.args in
    let none = c.if-h-eq0.true in
    alike _ _ _ _ _ _ _
    (λ t. none-plain args.s.now args.h.primary args.h.b1 args.h.m t none)
    c.repeat.ensures

pub eights-any-requires : goal.eights-any-requires
eights-any-requires c =
    let a = c.args in
    let h = c.requires.2 in (
      omega (arith, h.widths),
      c.requires.0,
      omega (arith, h.some),
      whole_room a.h.primary a.n a.h.b1 _ h.first,
      omega (arith, c.requires.1),
    )

pub overflow_mul-n : goal.overflow_mul-n
overflow_mul-n c =
    let pre = c.requires in
    omega (arith, pre.2.some)

pub rest-requires : goal.rest-requires
rest-requires c =
    let h = c.requires.2 in (
      omega (arith, h.widths),
      c.requires.0,
      h.some,
      h.first,
      omega (
        arith,
        c.requires.1,
        c.eights-any.auto.out,
      ),
      omega arith,
    )

pub shape_of-out : goal.shape_of-out
shape_of-out c =
    let eights = c.eights-any in
    c.rest.auto.out ∙ eights.auto.out

pub returns : goal.returns
returns c =
    let args =
    c.args in
    let eights = c.eights-any in
    joined _ 0 (args.n / 8 * 8) args.n _ _ _ _ _ _ (omega arith) (omega arith) eights.ensures
    c.rest.ensures
