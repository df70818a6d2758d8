-- All forms are packed before `end`, so the new one overlaps none and its slot was empty.
-- Assumes nothing.
use lib.ListN.{length-set}
use Rattle.bitmap_rewrite.specs.Settled.{laid}
use Rattle.store_laws.proofs.Slots.{form-few}
use Rattle.store_share.proofs.Putting.{used-few, lay-room, lay-lies, lay-entries, mid_written}
use mathlib.Core.Path.{refl}
use Prim.Native.Nat.{◌+◌, ◌-◌, ◌≤◌}
use native.Mathlib.Omega.{arith}
use lib.ListN.{length}
use Rattle.store_share.proofs.lay.Goals as goal

pub overflow_cast-dir : goal.overflow_cast-dir
overflow_cast-dir c =
    omega (arith, c.pack-end.ensures.sum, used-few _ _ _ c.requires.3 c.requires.0)

pub overflow_cast-dir-2 : goal.overflow_cast-dir-2
overflow_cast-dir-2 c =
    omega (
      arith,
      c.requires.5.sized,
      form-few (laid c.args.bitmap.now c.args.form.start c.args.ds.now c.args.form.cardinality) c.requires.5.is_f,
    )

pub bounds-dir-k-2 : goal.bounds-dir-k-2
bounds-dir-k-2 c =
    simp length-set (omega (arith, c.pack-end.ensures.dirs))

pub returns : goal.returns
returns c =
    let room : c.pack-end.result + c.args.form.size ≤ length c.pack-end.new.buf =
    lay-room _ _ _ _ _ _ _ _ _ c.pack-end.ensures c.requires.2 c.requires.1 c.requires.4 c.requires.5.sized c.requires.5.is_f c.requires.6 in
    let eb = mid_written c.pack-end.new.buf (laid c.args.bitmap.now c.args.form.start c.args.ds.now c.args.form.cardinality) _
    c.pack-end.result (length c.pack-end.new.buf - c.pack-end.result) (omega (arith, c.requires.5.sized)) (omega arith)
    c.put_laid.ensures in (
      lay-lies _ _ _ _ _ _ _ _ _ c.pack-end.ensures c.requires.2 c.requires.1 c.requires.4 c.requires.5.sized c.requires.5.is_f c.requires.6 _ _
          refl eb,
      lay-entries _ _ _ _ _ _ _ _ _ c.pack-end.ensures c.requires.2 c.requires.1 c.requires.4 c.requires.5.sized c.requires.5.is_f c.requires.6
          _ _ refl eb,
    )
