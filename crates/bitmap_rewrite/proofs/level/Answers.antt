-- The first i descriptors are at most 32, the others are as they were.
-- Assumes nothing.
use lib.ListN.{length-set}
use Rattle.bitmap_rewrite.proofs.Turns.{Level, level-low, level-high}
use mathlib.Core.List.{List}
use mathlib.Core.Path.{subst, refl, sym, ap, ◌∙◌}
use Prim.Native.Nat.{ℕ, ◌+◌}
use native.Mathlib.Omega.{arith}
use lib.ListN.{length}
use Rattle.bitmap_rewrite.proofs.level.Goals as goal
use Rattle.bitmap_rewrite.proofs.level.Goals.{then-d-i-gt32, else-d-i-gt32}

pub loop-i-init : goal.loop-i-init
loop-i-init c = (omega arith, record { long = refl; done = λ k h. absurd (omega arith); left = λ k h. refl })

pub bounds-d-i : goal.bounds-d-i
bounds-d-i c = omega (arith, c.loop-i.invariant.1.long)

pub bounds-d-i-then-d-i-gt32 : goal.bounds-d-i-then-d-i-gt32
bounds-d-i-then-d-i-gt32 c =
    omega (arith, c.loop-i.invariant.1.long)

pub loop-i-preserved : goal.loop-i-preserved
loop-i-preserved c = (
  omega arith,
  elim c.if-d-i-gt32.branch [
    | then-d-i-gt32 w ↦
        level-high _ _ _ c.loop-i.invariant.1 w.if-d-i-gt32.true (omega (arith, c.loop-i.invariant.1.long)) _ w.d-is
        (ap length w.d-is ∙ simp length-set)
    | else-d-i-gt32 w ↦
        subst (λ (x : List ℕ). Level c.args.d.now x (c.loop-i.i + 1)) (sym w.d-is)
        (level-low _ _ _ c.loop-i.invariant.1 w.if-d-i-gt32.false)
  ],
)

pub shape_of-d : goal.shape_of-d
shape_of-d c = c.loop-i.invariant.1.long

pub returns : goal.returns
returns c = λ k h. c.loop-i.invariant.1.done k (omega arith)
