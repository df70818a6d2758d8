-- The lengths of the other slots and the new one are what the definition sums; nothing is changed before that test.
-- Assumes nothing.
use mathlib.Core.List.{[]}
use lib.ListN.{length-set}
use Rattle.bitmap_rewrite.specs.Settled.{laid}
use Rattle.store_laws.proofs.Slots.{form-few}
use Rattle.store_laws.proofs.Changes.{clear-lies, length-new}
use Rattle.store_share.proofs.Putting.{used-few, own-few, no_room, clear_room, stored-done}
use mathlib.Core.Path.{◌∙◌}
use Prim.Native.Nat.{◌+◌, ◌-◌, ◌*◌}
use native.Mathlib.Omega.{arith}
use Rattle.store_share.proofs.replace.Goals as goal

pub overflow_sub-rest : goal.overflow_sub-rest
overflow_sub-rest c =
    omega (
      arith,
      own-few _ _ _ c.args.k [] c.requires.3 c.requires.2 c.requires.1,
      c.used.ensures,
      c.length_of.ensures.0,
    )

pub overflow_add-rest : goal.overflow_add-rest
overflow_add-rest c =
    omega (
      arith,
      c.used.ensures,
      used-few _ _ _ c.requires.3 c.requires.0,
      c.requires.4.sized,
      form-few (laid c.args.bitmap.now c.args.form.start c.args.ds.now c.args.form.cardinality) c.requires.4.is_f,
    )

pub returns-then-buf-rest : goal.returns-then-buf-rest
returns-then-buf-rest c =
    no_room _ _ _ c.args.k (laid c.args.bitmap.now c.args.form.start c.args.ds.now c.args.form.cardinality) c.requires.3 c.requires.2
    c.requires.1 (c.used.result - c.length_of.result) (omega (arith, c.used.ensures, c.length_of.ensures.0))
    (omega (arith, c.if-buf-rest.true, c.requires.4.sized))

pub lay-requires : goal.lay-requires
lay-requires c = (
  c.requires.0,
  c.requires.1,
  length-set c.args.dir.now (2 * c.args.k + 1) 0 ∙ c.requires.2,
  clear-lies _ _ _ _ c.requires.3 c.requires.2 c.requires.1,
  length-new c.args.dir.now c.args.k 0 (omega (arith, c.requires.2, c.requires.1)),
  c.requires.4,
  omega (
    arith,
    c.requires.4.sized,
    clear_room _ _ _ c.args.k (laid c.args.bitmap.now c.args.form.start c.args.ds.now c.args.form.cardinality) c.requires.3
        c.requires.2 c.requires.1 (c.used.result - c.length_of.result)
        (omega (arith, c.used.ensures, c.length_of.ensures.0))
        (omega (arith, c.if-buf-rest.false, c.requires.4.sized)),
  ),
)

pub shape_of-dir : goal.shape_of-dir
shape_of-dir c =
    c.lay.auto.dir ∙ length-set c.args.dir.now (2 * c.args.k + 1) 0

pub returns : goal.returns
returns c =
    stored-done _ _ _ c.args.k (laid c.args.bitmap.now c.args.form.start c.args.ds.now c.args.form.cardinality) c.requires.3 c.requires.2
    c.requires.1 (c.used.result - c.length_of.result) (omega (arith, c.used.ensures, c.length_of.ensures.0))
    (omega (arith, c.if-buf-rest.false, c.requires.4.sized)) _ _ (c.lay.auto.dir ∙ length-set c.args.dir.now (2 * c.args.k + 1) 0)
    c.lay.auto.buf c.lay.ensures.0 c.lay.ensures.1
