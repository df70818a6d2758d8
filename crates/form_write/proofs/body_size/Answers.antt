-- The invariant: the size so far and that of what is left make the size of all.
-- Assumes nothing.
use Prim.Native.Nat.{◌≤◌}
use native.Mathlib.Omega.{arith}
use lib.ListN.{get_or}
use Rattle.form_write.proofs.Whole.{size_step, size-end, size_low, size-high}
use Rattle.form_write.proofs.body_size.Goals as goal
use Rattle.form_write.proofs.body_size.Goals.{then-d-lt32, else-d-lt32}

pub overflow_add-t : goal.overflow_add-t
overflow_add-t c =
    let few : c.if-d-lt32.t ≤ 32 =
    elim c.if-d-lt32.branch [ then-d-lt32 w ↦ omega arith | else-d-lt32 w ↦ omega arith ] in
    omega arith

pub loop-d-preserved : goal.loop-d-preserved
loop-d-preserved c =
    let few : c.if-d-lt32.t ≤ 32 =
    elim c.if-d-lt32.branch [ then-d-lt32 w ↦ omega arith | else-d-lt32 w ↦ omega arith ] in
    let step = size_step c.args.ds.now c.loop-d.d-index c.if-d-lt32.t c.loop-d-test.true (elim c.if-d-lt32.branch [
      | then-d-lt32 w ↦ size_low (get_or c.args.ds.now c.loop-d.d-index 0) c.if-d-lt32.t w.if-d-lt32.true w.t-is
      | else-d-lt32 w ↦ size-high (get_or c.args.ds.now c.loop-d.d-index 0) c.if-d-lt32.t w.if-d-lt32.false w.t-is
    ]) in
    (omega arith, omega (arith, step, c.loop-d.invariant.1))

pub returns : goal.returns
returns c =
    let none = size-end c.args.ds.now c.loop-d.d-index c.loop-d-test.false in
    (omega (arith, none, c.loop-d.invariant.1), omega arith)
