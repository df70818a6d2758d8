-- The parts so far are written: the bits above b of the value at each offset.
-- Assumes nothing.
use Prim.Native.Nat.{◌/◌, ◌^◌}
use lib.ListN.{length-set, length, get_or}
use Rattle.width_choice.proofs.Mapping.{map-start, front-turn, map-end}
use mathlib.Core.Path.{◌≡◌, refl, ◌∙◌}
use native.Mathlib.Omega.{arith}
use Rattle.chunk_parts.proofs.high_parts.Goals as goal

pub loop-j-init : goal.loop-j-init
loop-j-init c = (
  refl,
  map-start (λ i. get_or c.args.vs.now i 0 / 2 ^ c.args.b) c.args.offs.now c.args.out.now 0,
)

pub overflow_cast-out : goal.overflow_cast-out
overflow_cast-out c = omega (arith, c.type_inv.offs c.loop-j.j)

pub bounds-vs-i : goal.bounds-vs-i
bounds-vs-i c =
    c.requires.2 c.loop-j.j (omega arith)

pub loop-j-preserved : goal.loop-j-preserved
loop-j-preserved c = (
  length-set c.loop-j.out c.loop-j.j _ ∙ c.loop-j.invariant.0,
  front-turn (λ i. get_or c.args.vs.now i 0 / 2 ^ c.args.b) c.args.offs.now c.args.out.now c.loop-j.out c.loop-j.j _
      (omega arith)
      (omega arith) refl c.loop-j.invariant.1,
)

pub shape_of-out : goal.shape_of-out
shape_of-out c = c.loop-j.invariant.0

pub returns : goal.returns
returns c =
    let end : c.loop-j.j ≡ length c.args.offs.now = omega arith in (
      refl,
      map-end (λ i. get_or c.args.vs.now i 0 / 2 ^ c.args.b) c.args.offs.now c.args.out.now c.loop-j.out 0 c.loop-j.j
          end c.loop-j.invariant.1,
    )
