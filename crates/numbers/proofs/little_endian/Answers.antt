-- The loop goes down from the last byte and keeps v as the little endian number of the bytes behind j: no sum wraps.
-- Assumes nothing.
use mathlib.Core.Path.{◌≡◌, ap, subst, ◌∙◌}
use Prim.Native.Nat.{ℕ, ◌+◌, ◌-◌, ◌*◌, ◌^◌, ◌<◌}
use native.Mathlib.Nat.{add-zero, sub-zero, sub_self}
use Rattle.common.specs.Bytes.{little_at}
use Rattle.row_laws.proofs.Bytes.{turn, grows, room}
use borrow.Author.Rules.{rules}
use native.Mathlib.Omega.{arith}
use Rattle.numbers.proofs.little_endian.Goals as goal

pub loop-j-init : goal.loop-j-init
unfolding little_at
loop-j-init c = (omega arith, simp sub_self, simp sub_self (search rules))

pub overflow_mul-v : goal.overflow_mul-v
overflow_mul-v c = omega (
  arith,
  room c.args.w c.loop-j.j c.loop-j-test.true c.loop-j.invariant.0 c.loop-j.v
      (omega arith) c.loop-j.invariant.2,
)

pub overflow_add-v : goal.overflow_add-v
overflow_add-v c = omega (
  arith,
  room c.args.w c.loop-j.j c.loop-j-test.true c.loop-j.invariant.0 c.loop-j.v
      (omega arith) c.loop-j.invariant.2,
  c.wide.ensures.1,
)

pub loop-j-preserved : goal.loop-j-preserved
loop-j-preserved c = let l = c.loop-j in
    let a = c.args in
    let t = c.loop-j-test.true in (
      omega arith,
      ap (λ (b : ℕ). l.v * 256 + b) c.wide.ensures.0 ∙ turn a.w l.j t l.invariant.0 a.s.now a.at l.v l.invariant.1,
      grows a.w l.j t l.invariant.0 l.v c.wide.result l.invariant.2 c.wide.ensures.1,
    )

pub returns : goal.returns
returns c = let l = c.loop-j in
    let a = c.args in
    let z : l.j ≡ 0 = omega arith in (
      l.invariant.1 ∙ ap (λ (n : ℕ). little_at a.s.now (a.at + n) (a.w - n)) z ∙ simp (add-zero, sub-zero),
      subst (λ (n : ℕ). l.v < 256 ^ n) (rw z (sub-zero a.w)) l.invariant.2,
    )
