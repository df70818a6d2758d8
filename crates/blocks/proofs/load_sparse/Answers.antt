-- The invariant (Shows): the bits set are the members passed.
-- Assumes nothing.
use mathlib.Core.Path.{◌≡◌}
use Prim.Native.Nat.{◌+◌}
use native.Mathlib.Omega.{arith}
use lib.ListN.{take, drop}
use Rattle.common.specs.Lists.{mem}
use Rattle.blocks.proofs.Blocks.{shows-block, load-none, load-more}
use Rattle.blocks.proofs.load_sparse.Goals as goal

pub loop-i-init : goal.loop-i-init
loop-i-init c = (omega arith, load-none)

pub overflow_cast-q : goal.overflow_cast-q
overflow_cast-q c =
    omega (arith, c.type_inv.s (c.args.at + c.loop-i.i))

pub bounds-b-q : goal.bounds-b-q
bounds-b-q c =
    omega (arith, c.type_inv.s (c.args.at + c.loop-i.i))

pub bounds-b-q-in-loop-i : goal.bounds-b-q-in-loop-i
bounds-b-q-in-loop-i c =
    omega (arith, c.type_inv.s (c.args.at + c.loop-i.i))

pub loop-i-preserved : goal.loop-i-preserved
loop-i-preserved c = (
  omega arith,
  load-more c.loop-i.b c.args.s.now c.args.at c.loop-i.i c.loop-i.invariant.1 (omega arith)
      (omega (
        arith,
        c.type_inv.s (c.args.at + c.loop-i.i),
      )),
)

pub returns : goal.returns
returns c =
    let e : c.loop-i.i ≡ c.args.n = omega arith in
    shows-block c.loop-i.b (λ p. mem p (take c.args.n (drop c.args.at c.args.s.now))) (rw e at c.loop-i.invariant.1)
