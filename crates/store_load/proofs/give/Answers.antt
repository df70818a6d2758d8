-- The bytes go behind all that lies there, so the slots before keep their entries; an empty entry changes nothing.
-- Assumes nothing.
use lib.ListN.{length-set}
use Rattle.store_load.proofs.Steps.{give-none, give-some, given-few}
use mathlib.Core.Path.{refl}
use native.Mathlib.Omega.{arith}
use Rattle.store_load.proofs.give.Goals as goal

pub returns-then-m-eq0 : goal.returns-then-m-eq0
returns-then-m-eq0 c =
    (omega (arith, c.if-m-eq0.true), λ acc g. give-none _ _ _ c.args.s.now _ c.args.a _ _ c.if-m-eq0.true acc g)

pub copy_part-requires : goal.copy_part-requires
copy_part-requires c =
    (c.requires.3.inside, c.requires.4)

pub overflow_cast-dir : goal.overflow_cast-dir
overflow_cast-dir c =
    omega (arith, c.requires.5)

pub overflow_cast-dir-2 : goal.overflow_cast-dir-2
overflow_cast-dir-2 c =
    omega (arith, given-few _ _ _ c.requires.3)

pub bounds-dir-k-2 : goal.bounds-dir-k-2
bounds-dir-k-2 c =
    simp length-set (omega (arith, c.requires.2, c.requires.1))

pub overflow_add-result : goal.overflow_add-result
overflow_add-result c =
    omega (arith, c.requires.4)

pub shape_of-dir : goal.shape_of-dir
shape_of-dir c = simp length-set

pub returns : goal.returns
returns c = (
  refl,
  λ acc g.
      give-some _ _ _ _ _ _ _ _ acc g c.requires.2 c.requires.1 c.requires.3 c.if-m-eq0.false c.requires.4 _ _ refl
      c.copy_part.ensures,
)
