-- The spare bits are the low bits of one byte, or there are none (the laws spare-none and spare-some).
-- Assumes nothing.
use mathlib.Core.Path.{sym}
use Prim.Native.Nat.{◌+◌, ◌-◌, ◌*◌, ◌/◌, ◌%◌, ◌≤◌}
use native.Mathlib.Omega.{arith}
use lib.Pow.{pow_pos}
use native.Mathlib.Nat.{mul-le-mul}
use Rattle.bitmap_spec.proofs.Window.{spare-none, spare-some, shifted_one}
use Rattle.chunk_read.proofs.spare_zero.Goals as goal

pub overflow_mul-p : goal.overflow_mul-p
overflow_mul-p c =
    let l : c.args.n * c.args.w ≤ 256 * 8 = mul-le-mul {n₂ = 256} {m₂ = 8} (omega arith) (omega arith) in
    omega arith

pub returns-then-r-eq0 : goal.returns-then-r-eq0
returns-then-r-eq0 c =
    let args = c.args in
    sym (spare-none args.s.now args.at args.w args.n c.if-r-eq0.true)

pub overflow_cast-result : goal.overflow_cast-result
overflow_cast-result c =
    let args = c.args in
    omega (arith, c.type_inv.s (args.at + args.n * args.w / 8))

pub nonzero_rem-result : goal.nonzero_rem-result
nonzero_rem-result c =
    let args = c.args in
    rw (shifted_one (8 - args.n * args.w % 8) (omega arith)) (pow_pos (8 - args.n * args.w % 8))

pub returns : goal.returns
returns c =
    let a = c.args in
    rw (shifted_one (8 - a.n * a.w % 8) (omega arith))
    (sym (spare-some a.s.now a.at a.w a.n c.if-r-eq0.false))
