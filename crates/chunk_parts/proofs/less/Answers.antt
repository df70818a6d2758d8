-- The invariant: the values passed are written less m.
-- Assumes nothing.
use lib.ListN.{length-set}
use Rattle.bitmap_laws.proofs.Output.{written_none}
use Rattle.width_choice.proofs.Mapping.{front-turn, map-end}
use mathlib.Core.Path.{◌≡◌, refl, ◌∙◌}
use Prim.Native.Nat.{◌-◌}
use native.Mathlib.Omega.{arith}
use lib.ListN.{length}
use Rattle.chunk_parts.proofs.less.Goals as goal

pub loop-i-init : goal.loop-i-init
loop-i-init c = (refl, written_none c.args.vs.now 0)

pub overflow_sub-vs : goal.overflow_sub-vs
overflow_sub-vs c =
    c.requires.1 c.loop-i.i (omega arith)

pub loop-i-preserved : goal.loop-i-preserved
loop-i-preserved c = (
  length-set c.loop-i.vs c.loop-i.i _ ∙ c.loop-i.invariant.0,
  front-turn (λ d. d - c.args.m) c.args.ds.now c.args.vs.now c.loop-i.vs c.loop-i.i _ (omega arith) (omega arith) refl
      c.loop-i.invariant.1,
)

pub shape_of-vs : goal.shape_of-vs
shape_of-vs c = c.loop-i.invariant.0

pub returns : goal.returns
returns c =
    let e : c.loop-i.i ≡ length c.args.ds.now = omega arith in
    (refl, map-end (λ d. d - c.args.m) c.args.ds.now c.args.vs.now c.loop-i.vs 0 c.loop-i.i e c.loop-i.invariant.1)
