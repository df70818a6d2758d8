-- The invariant: the positions passed are written, each less its container.
-- Assumes nothing.
use lib.ListN.{length-set}
use Rattle.bitmap_spec.specs.Output.{written}
use Rattle.bitmap_laws.proofs.Output.{written_none}
use mathlib.Core.List.{List}
use Rattle.bitmap_write.proofs.Runs.{low_turn, run-whole}
use mathlib.Core.Path.{refl, ap, ◌∙◌}
use Prim.Native.Nat.{ℕ}
use native.Mathlib.Omega.{arith}
use Rattle.bitmap_write.proofs.put_low.Goals as goal

pub loop-t-init : goal.loop-t-init
loop-t-init c = (refl, omega arith, refl, written_none c.args.out.now c.args.at)

pub loop-t-preserved : goal.loop-t-preserved
loop-t-preserved c = (
  c.loop-t.invariant.0,
  omega arith,
  simp length-set c.loop-t.invariant.2,
  low_turn c.args.ps.now c.args.i c.args.j c.requires.0 c.requires.1 c.args.out.now c.loop-t.out c.args.at c.loop-t.t
      (omega arith) c.requires.2 c.loop-t.invariant.3,
)

pub shape_of-out : goal.shape_of-out
shape_of-out c = c.loop-t.invariant.2

pub returns : goal.returns
returns c = (
  c.loop-t.invariant.0,
  c.loop-t.invariant.3
      ∙ ap (λ (l : List ℕ). written c.args.out.now c.args.at l)
      (run-whole c.args.ps.now c.args.i c.args.j c.requires.0 c.requires.1 c.loop-t.t (omega arith)),
)
