-- Header and chunks are made apart; the containers move up, and they come before them.
-- Assumes nothing.
use mathlib.Core.List.{◌++◌}
use mathlib.Core.Path.{refl, sym, ◌∙◌}
use Prim.Native.Nat.{ℕ, ◌/◌}
use native.Mathlib.Omega.{arith}
use lib.ListN.{length-replicate, length}
use Rattle.bitmap_spec.specs.Form.{write_chunks}
use Rattle.bitmap_laws.proofs.Round.{header}
use Rattle.bitmap_laws.proofs.Parts.{part_length}
use Rattle.pair_place.proofs.Placing.{head-before, head-copied, head-length, head-most, room}
use Rattle.pair_place.proofs.put_before.Goals as goal

pub slice_bounds-put_head-end : goal.slice_bounds-put_head-end
slice_bounds-put_head-end c = refl

pub put_head-to-requires : goal.put_head-to-requires
put_head-to-requires c =
    (c.requires.0, c.requires.1, room _ _ (head-most c.args.ds.now c.requires.1 c.requires.0))

pub move_up-requires : goal.move_up-requires
move_up-requires c =
    (omega (arith, c.put_head-to.ensures.0), omega (arith, c.put_head-to.ensures.0, c.requires.3))

pub slice_bounds-copy_part-end : goal.slice_bounds-copy_part-end
slice_bounds-copy_part-end c =
    sym c.put_head-to.auto.out

pub copy_part-requires : goal.copy_part-requires
copy_part-requires c = (
  omega (
    arith,
    c.put_head-to.ensures.0,
    c.put_head-to.auto.out,
    length-replicate {A = ℕ} 6246 0,
    head-most c.args.ds.now c.requires.1 c.requires.0,
  ),
  omega (arith, c.put_head-to.ensures.0, c.requires.3, c.move_up.auto.s),
)

pub overflow_add-result : goal.overflow_add-result
overflow_add-result c =
    omega (arith, c.put_head-to.ensures.0, c.requires.3, c.well_formed.1.1.1.0)

pub returns : goal.returns
returns c =
    let long = c.put_head-to.ensures.0 ∙ sym (head-length c.args.card c.args.ds.now) in (
      omega (arith, c.put_head-to.ensures.0),
      head-before c.args.out.now _ _
          (header c.args.card (length c.args.ds.now) ++ write_chunks (length c.args.ds.now / 256) c.args.ds.now)
          _ c.put_head-to.result long
          (omega (
            arith,
            c.put_head-to.ensures.0,
            c.requires.3,
            part_length c.args.out.now 6 c.args.size (omega (arith, c.requires.3)),
          ))
          c.move_up.ensures
          (head-copied _ _
          (header c.args.card (length c.args.ds.now) ++ write_chunks (length c.args.ds.now / 256)
          c.args.ds.now)
          _ _ c.put_head-to.result c.put_head-to.ensures.1 long c.copy_part.ensures),
    )
