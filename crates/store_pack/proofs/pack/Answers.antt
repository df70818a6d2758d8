-- All that starts before `to` is in place, and the next to move starts first of the rest, so nothing is written over
-- before it is read. The measure is what is left of the buffer.
-- Assumes nothing.
use lib.ListN.{length-set}
use Rattle.store_laws.proofs.Packing.{pack-start, pack-end}
use Rattle.store_pack.proofs.Turns.{pack-turn, pack-fits}
use mathlib.Core.Path.{refl}
use Prim.Native.Nat.{◌-◌}
use native.Mathlib.Omega.{arith}
use Rattle.store_pack.proofs.pack.Goals as goal

pub loop-k-init : goal.loop-k-init
loop-k-init c =
    (omega arith, pack-start _ _ _ c.requires.2, c.next_slot-k.ensures)

pub start_of-at-requires : goal.start_of-at-requires
start_of-at-requires c = omega (arith, c.loop-k.invariant.1.dirs)

pub length_of-m-requires : goal.length_of-m-requires
length_of-m-requires c =
    omega (arith, c.loop-k.invariant.1.dirs)

pub move_down-requires : goal.move_down-requires
move_down-requires c =
    let f = pack-fits _ _ _ _ _ _ _ _ _ c.loop-k.invariant.1 c.loop-k.invariant.2 c.loop-k-test.true (omega (arith, c.loop-k.invariant.1.dirs))
    c.start_of-at.ensures.0 c.length_of-m.ensures.0 in
    (f.0, f.1)

pub overflow_cast-dir : goal.overflow_cast-dir
overflow_cast-dir c =
    let f = pack-fits _ _ _ _ _ _ _ _ _ c.loop-k.invariant.1 c.loop-k.invariant.2 c.loop-k-test.true (omega (arith, c.loop-k.invariant.1.dirs))
    c.start_of-at.ensures.0 c.length_of-m.ensures.0 in
    omega (arith, f.0, c.start_of-at.ensures.1)

pub bounds-dir-k : goal.bounds-dir-k
bounds-dir-k c =
    omega (arith, c.loop-k.invariant.1.dirs)

pub overflow_add-to : goal.overflow_add-to
overflow_add-to c =
    let f = pack-fits _ _ _ _ _ _ _ _ _ c.loop-k.invariant.1 c.loop-k.invariant.2 c.loop-k-test.true (omega (arith, c.loop-k.invariant.1.dirs))
    c.start_of-at.ensures.0 c.length_of-m.ensures.0 in
    omega (arith, f.0, f.1)

pub next_slot-k-requires-in-loop-k : goal.next_slot-k-requires-in-loop-k
next_slot-k-requires-in-loop-k c =
    (omega arith, simp length-set (omega (arith, c.loop-k.invariant.1.dirs)))

pub loop-k-smaller : goal.loop-k-smaller
loop-k-smaller c =
    let f = pack-fits _ _ _ _ _ _ _ _ _ c.loop-k.invariant.1 c.loop-k.invariant.2 c.loop-k-test.true (omega (arith, c.loop-k.invariant.1.dirs))
    c.start_of-at.ensures.0 c.length_of-m.ensures.0 in
    omega (arith, f.0, f.1, f.2, c.move_down.auto.s)

pub loop-k-preserved : goal.loop-k-preserved
loop-k-preserved c =
    let f = pack-fits _ _ _ _ _ _ _ _ _ c.loop-k.invariant.1 c.loop-k.invariant.2 c.loop-k-test.true (omega (arith, c.loop-k.invariant.1.dirs))
    c.start_of-at.ensures.0 c.length_of-m.ensures.0 in (
      omega (arith, f.0, f.1, c.move_down.auto.s),
      pack-turn _ _ _ _ _ _ _ _ _ c.loop-k.invariant.1 c.loop-k.invariant.2 c.loop-k-test.true (omega (arith, c.loop-k.invariant.1.dirs))
          c.start_of-at.ensures.0 c.length_of-m.ensures.0 _ _ refl c.move_down.ensures,
      c.next_slot-k-in-loop-k.ensures,
    )

pub shape_of-dir : goal.shape_of-dir
shape_of-dir c = c.loop-k.invariant.1.dirs

pub shape_of-buf : goal.shape_of-buf
shape_of-buf c = c.loop-k.invariant.1.bytes

pub returns : goal.returns
returns c =
    pack-end _ _ _ _ _ _ c.requires.2 c.loop-k.invariant.1 (λ j a l. c.loop-k.invariant.2.none (omega (arith, c.loop-k.invariant.2.within)) j a l)
