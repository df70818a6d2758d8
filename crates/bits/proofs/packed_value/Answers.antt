-- The bits of a value lie in one byte or in two next to each other (the law value-window, for any width).
-- Assumes nothing.
use mathlib.Core.Path.{refl, sym, ◌∙◌}
use Prim.Native.Nat.{◌+◌, ◌*◌, ◌/◌}
use native.Mathlib.Omega.{arith}
use lib.ListN.{get_or}
use lib.Pow.{pow_pos}
use lib.Dec.{lit<}
use Rattle.bitmap_spec.proofs.Window.{value-window, value_none, value-lt}
use Rattle.bits.proofs.packed_value.Goals as goal

pub returns-then-w-eq0 : goal.returns-then-w-eq0
returns-then-w-eq0 c =
    let a = c.args in
    (sym (value_none a.s.now a.at a.w a.i c.if-w-eq0.true), pow_pos a.w)

pub returns-then-r-w-le8 : goal.returns-then-r-w-le8
returns-then-r-w-le8 c =
    let a = c.args in
    let e = c.cut16.ensures ∙ sym (value-window a.s.now a.at a.w a.i 0 (lit< tt) (omega arith) (λ g. absurd (omega arith))) in
    (e, rw e (value-lt a.s.now a.at a.w a.i))

pub returns : goal.returns
returns c =
    let a = c.args in
    let e = c.cut16-2.ensures ∙ sym (value-window a.s.now a.at a.w a.i (get_or a.s.now (a.at + a.i * a.w / 8 + 1) 0)
    (omega (arith, c.type_inv.s (a.at + a.i * a.w / 8 + 1))) (omega arith) (λ g. refl)) in
    (e, rw e (value-lt a.s.now a.at a.w a.i))
