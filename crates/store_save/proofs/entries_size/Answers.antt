-- t is the sum of the first k entries' sizes.
-- Assumes nothing.
use Rattle.store_save.specs.Size.{entry_size}
use Rattle.store_laws.proofs.Slots.{tally-more, tally-none}
use Rattle.store_save.proofs.Sizes.{size_is}
use mathlib.Core.Path.{◌≡◌}
use Prim.Native.Nat.{◌-◌}
use native.Mathlib.Omega.{arith}
use Rattle.store_save.proofs.entries_size.Goals as goal

pub loop-k-init : goal.loop-k-init
loop-k-init c = (omega arith, omega arith, tally-none (entry_size c.args.dir.now))

pub groups_size-requires : goal.groups_size-requires
groups_size-requires c =
    omega (arith, c.length_of-m.ensures.0, c.requires.2 c.loop-k.k c.loop-k-test.true)

pub overflow_add-t : goal.overflow_add-t
overflow_add-t c = omega (arith, c.length_of-m.ensures.1, c.groups_size.ensures.1)

pub overflow_add-t-in-loop-k : goal.overflow_add-t-in-loop-k
overflow_add-t-in-loop-k c = omega (arith, c.length_of-m.ensures.1, c.groups_size.ensures.1)

pub loop-k-preserved : goal.loop-k-preserved
loop-k-preserved c = (
  omega arith,
  omega (
    arith,
    c.length_of-m.ensures.0,
    c.groups_size.ensures.1,
    c.requires.2 c.loop-k.k c.loop-k-test.true,
  ),
  tally-more (entry_size c.args.dir.now) _ _ _ c.loop-k.invariant.2
      (size_is c.args.dir.now c.loop-k.k _ _ c.length_of-m.ensures.0 c.groups_size.ensures.0),
)

pub returns : goal.returns
returns c =
    let e : c.loop-k.k ≡ c.args.n = omega arith in
    (rw e at c.loop-k.invariant.2, rw e at c.loop-k.invariant.1)
