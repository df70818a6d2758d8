-- The entries of the first k slots are written; the rest is what is still to come.
-- Assumes nothing.
use Rattle.bitmap_laws.proofs.Output.{along-start, along-step, along-room, along-length, along-end}
use Rattle.store_save.proofs.Sizes.{lengths-few, rest-step, rest-none, rest_all, save-room}
use Prim.Native.Nat.{◌-◌}
use native.Mathlib.Omega.{arith}
use Rattle.store_save.proofs.put_entries.Goals as goal

pub loop-k-init : goal.loop-k-init
loop-k-init c =
    (omega arith, along-start _ _ _ _ (rest_all c.args.n c.args.dir.now c.args.buf.now))

pub overflow_add-at : goal.overflow_add-at
overflow_add-at c =
    omega (arith, along-room c.loop-k.invariant.1, c.requires.3)

pub put_entry-t-requires : goal.put_entry-t-requires
put_entry-t-requires c = (
  omega (arith, c.requires.0),
  omega (arith, c.requires.1),
  lengths-few _ _ _ c.requires.2 _ c.loop-k-test.true,
  λ l. c.requires.2.inside _ c.loop-k-test.true l,
  save-room _ _ _ _ c.requires.2 c.loop-k-test.true c.loop-k.invariant.1 c.requires.3,
)

pub overflow_add-t : goal.overflow_add-t
overflow_add-t c =
    omega (
      arith,
      c.put_entry-t.ensures.0,
      along-length c.loop-k.invariant.1 c.requires.3,
      save-room c.args.n c.args.dir.now c.args.buf.now c.loop-k.k c.requires.2 c.loop-k-test.true c.loop-k.invariant.1
          c.requires.3,
    )

pub loop-k-preserved : goal.loop-k-preserved
loop-k-preserved c = (
  omega arith,
  along-step _ _ _ _ c.loop-k.invariant.1 c.requires.3 (rest-step _ _ _ _ c.requires.2 c.loop-k-test.true) c.put_entry-t.ensures.1
      c.put_entry-t.ensures.0,
)

pub shape_of-out : goal.shape_of-out
shape_of-out c =
    along-length c.loop-k.invariant.1 c.requires.3

pub returns : goal.returns
returns c =
    along-end c.loop-k.invariant.1 (rest-none c.args.n c.args.dir.now c.args.buf.now _ c.loop-k-test.false)
