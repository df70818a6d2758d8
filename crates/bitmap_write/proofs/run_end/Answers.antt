-- The invariant: every position passed is below b.
-- Assumes nothing.
use mathlib.Core.Logic.{⊎_elim}
use Rattle.bitmap_spec.proofs.Window.{below_or}
use mathlib.Core.Path.{◌≡◌}
use native.Mathlib.Omega.{arith}
use Rattle.bitmap_write.proofs.run_end.Goals as goal

pub loop-j-init : goal.loop-j-init
loop-j-init c = (omega arith, c.requires, λ t l m. absurd (omega arith))

pub returns-then-b-ps : goal.returns-then-b-ps
returns-then-b-ps c = record {
  order = c.loop-j.invariant.0;
  within = c.loop-j.invariant.1;
  under =
      c.loop-j.invariant.2;
  over = λ l. c.if-b-ps.true;
}

pub loop-j-preserved : goal.loop-j-preserved
loop-j-preserved c = (
  omega arith,
  omega arith,
  λ t l m. ⊎_elim (λ g. c.loop-j.invariant.2 t l g)
      (λ g. let e : c.loop-j.j ≡ t = omega arith in rw (← e) c.if-b-ps.false) (below_or t c.loop-j.j),
)

pub returns : goal.returns
returns c = record {
  order = c.loop-j.invariant.0;
  within = c.loop-j.invariant.1;
  under = c.loop-j.invariant.2;
  over =
      λ l. absurd (omega (arith, c.loop-j-test.false));
}
