-- Those counted and those below j in the bytes that are left are all below j.
-- Assumes nothing.
use native.Mathlib.Nat.{add-zero, sub-zero, zero-add}
use native.Mathlib.Omega.{arith}
use Rattle.bitmap_read.proofs.Containers.{below_on, below-off, below_end}
use Rattle.bitmap_read.proofs.listed_below.Goals as goal
use Rattle.bitmap_read.proofs.listed_below.Goals.{then-s-at, else-s-at}

pub loop-i-init : goal.loop-i-init
loop-i-init c = (omega arith, omega arith, simp (add-zero, sub-zero, zero-add))

pub loop-i-preserved : goal.loop-i-preserved
loop-i-preserved c =
    elim c.if-s-at.branch [
      | then-s-at w ↦ omega (arith, below_on c.args.s.now c.args.at c.args.n c.loop-i.i c.args.j (omega arith) (omega arith) w.if-s-at.true)
      | else-s-at w ↦ omega (arith, below-off c.args.s.now c.args.at c.args.n c.loop-i.i c.args.j (omega arith) (omega arith) w.if-s-at.false)
    ]

pub returns : goal.returns
returns c =
    omega (arith, below_end c.args.s.now c.args.at c.args.n c.loop-i.i c.args.j c.loop-i-test.false)
