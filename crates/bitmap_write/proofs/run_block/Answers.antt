-- The invariant (Shows): the bits set are the positions passed.
-- Assumes nothing.
use lib.ListN.{take}
use Rattle.common.specs.Lists.{mem}
use Rattle.blocks.specs.Block.{block}
use Rattle.blocks.proofs.Blocks.{shows-block, load-none}
use Rattle.bitmap_write.specs.Run.{run}
use mathlib.Core.List.{List}
use Rattle.bitmap_write.proofs.Runs.{block-turn, run-whole}
use mathlib.Core.Path.{refl, ap, ◌∙◌}
use Prim.Native.Nat.{ℕ}
use native.Mathlib.Omega.{arith}
use Rattle.bitmap_write.proofs.run_block.Goals as goal

pub loop-t-init : goal.loop-t-init
loop-t-init c = (refl, omega arith, load-none)

pub loop-t-preserved : goal.loop-t-preserved
loop-t-preserved c = (
  c.loop-t.invariant.0,
  omega arith,
  block-turn c.args.ps.now c.args.i c.args.j c.requires.0 c.requires.1 c.loop-t.b c.loop-t.t (omega arith)
      c.loop-t.invariant.2,
)

pub returns : goal.returns
returns c = shows-block c.loop-t.b (λ p. mem p (take c.loop-t.t (run c.args.ps.now c.args.i c.args.j)))
    c.loop-t.invariant.2 ∙ ap (λ (l : List ℕ). block (λ p. mem p l))
    (run-whole c.args.ps.now c.args.i c.args.j c.requires.0 c.requires.1 c.loop-t.t (omega arith))
