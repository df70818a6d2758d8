-- The invariant: the descriptors from i on are 0.
-- Assumes nothing.
use mathlib.Core.Logic.{⊎_elim}
use mathlib.Core.Path.{◌≡◌}
use Prim.Native.Nat.{◌+◌, ◌-◌}
use native.Mathlib.Omega.{arith}
use Rattle.bitmap_spec.proofs.Window.{below_or}
use Rattle.form_write.proofs.trim.Goals as goal

pub loop-i-init : goal.loop-i-init
loop-i-init c = λ k h g. absurd (omega arith)

pub returns-then-ds-i-ne0 : goal.returns-then-ds-i-ne0
returns-then-ds-i-ne0 c =
    let up : c.loop-i.i - 1 + 1 ≡ c.loop-i.i = omega arith in
    rw up record { within = omega arith; zeros = c.loop-i.invariant; last = λ h. c.if-ds-i-ne0.true }

pub loop-i-preserved : goal.loop-i-preserved
loop-i-preserved c =
    λ k h g.
    ⊎_elim (λ l. let e : c.loop-i.i - 1 ≡ k = omega arith in rw (← e) c.if-ds-i-ne0.false)
    (λ l. c.loop-i.invariant k l g) (below_or k c.loop-i.i)

pub returns : goal.returns
returns c = record {
  within = omega arith;
  zeros = λ k h g. c.loop-i.invariant k (omega (arith, c.loop-i-test.false)) g;
  last = λ h. absurd (omega arith);
}
