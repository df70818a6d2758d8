-- t is the sum of the first k lengths.
-- Assumes nothing.
use Rattle.store_spec.specs.Store.{length_at}
use Rattle.store_laws.proofs.Slots.{tally-more, tally-none}
use mathlib.Core.Path.{◌≡◌}
use Prim.Native.Nat.{◌-◌}
use native.Mathlib.Omega.{arith}
use Rattle.store_pack.proofs.used.Goals as goal

pub loop-k-init : goal.loop-k-init
loop-k-init c = (omega arith, omega arith, tally-none (length_at c.args.dir.now))

pub overflow_add-t : goal.overflow_add-t
overflow_add-t c = omega (arith, c.length_of-t.ensures.1)

pub loop-k-preserved : goal.loop-k-preserved
loop-k-preserved c = (
  omega arith,
  omega (arith, c.length_of-t.ensures.1),
  tally-more (length_at c.args.dir.now) _ _ _ c.loop-k.invariant.2 c.length_of-t.ensures.0,
)

pub returns : goal.returns
returns c =
    let e : c.loop-k.k ≡ c.args.n = omega arith in
    rw e at c.loop-k.invariant.2
