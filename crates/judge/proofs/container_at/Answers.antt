-- Sparse: the bytes rise, and there are d of them. Dense: the ones are counted.
-- Assumes nothing.
use native.Mathlib.Omega.{arith}
use Rattle.judge.proofs.Walking.{size-sparse, size-dense, held-sparse, held-dense}
use Rattle.judge.proofs.container_at.Goals as goal

pub rises-requires : goal.rises-requires
rises-requires c = (omega arith, omega (arith, size-sparse c.args.d c.if-d-lt32.true))

pub returns-then-d-lt32 : goal.returns-then-d-lt32
returns-then-d-lt32 c =
    rw c.then_some.ensures
    (held-sparse _ _ _ _ c.if-d-lt32.true (omega (arith, size-sparse c.args.d c.if-d-lt32.true)) c.rises.ensures)

pub dense_count-n-requires : goal.dense_count-n-requires
dense_count-n-requires c = omega (arith, size-dense c.args.d c.if-d-lt32.false)

pub returns : goal.returns
returns c = rw c.then_some-2.ensures (held-dense _ _ _ _ c.if-d-lt32.false c.dense_count-n.ensures)
