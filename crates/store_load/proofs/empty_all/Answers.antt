-- The first k slots have length 0.
-- Assumes nothing.
use lib.ListN.{length-set}
use mathlib.Core.Logic.{⊎_elim}
use Rattle.bitmap_spec.proofs.Window.{below_or}
use Rattle.store_laws.proofs.Changes.{length-kept, length-new}
use mathlib.Core.Path.{◌≡◌, refl, ◌∙◌}
use Prim.Native.Nat.{◌-◌}
use native.Mathlib.Omega.{arith}
use Rattle.store_load.proofs.empty_all.Goals as goal

pub loop-k-init : goal.loop-k-init
loop-k-init c = (omega arith, refl, λ j h. absurd (omega arith))

pub bounds-dir-k : goal.bounds-dir-k
bounds-dir-k c = omega (arith, c.loop-k.invariant.1, c.requires.1)

pub loop-k-preserved : goal.loop-k-preserved
loop-k-preserved c = (
  omega arith,
  simp length-set (omega arith),
  λ j h.
      ⊎_elim
      (λ a.
      length-kept c.loop-k.dir c.loop-k.k 0 j (λ q. omega arith) ∙
      c.loop-k.invariant.2 j a)
      (λ a.
      let e : j ≡ c.loop-k.k = omega arith in rw e
      (length-new c.loop-k.dir c.loop-k.k 0
      (omega (arith, c.loop-k.invariant.1, c.requires.1))))
      (below_or j c.loop-k.k),
)

pub shape_of-dir : goal.shape_of-dir
shape_of-dir c = c.loop-k.invariant.1

pub returns : goal.returns
returns c = λ j h. c.loop-k.invariant.2 j (omega arith)
