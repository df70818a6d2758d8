-- The owner's parts are given their entries and put back; all else stays.
-- Assumes nothing.
use Rattle.store_halves.proofs.Parts.{in-buf, dir-many, buf-many}
use Rattle.store_laws.proofs.Scans.{all-many}
use Rattle.store_halves.proofs.Loading.{gave}
use mathlib.Core.Path.{refl}
use native.Mathlib.Omega.{arith}
use borrow.Author.Rules.{rules}
use Rattle.store_halves.proofs.give_all.Goals as goal

pub overflow_mul-s : goal.overflow_mul-s
overflow_mul-s c =
    omega (arith, in-buf c.args.buf.now c.args.o c.requires.0)

pub overflow_add-s : goal.overflow_add-s
overflow_add-s c =
    omega (arith, in-buf c.args.buf.now c.args.o c.requires.0)

pub slice_bounds-give_all-end-2 : goal.slice_bounds-give_all-end-2
slice_bounds-give_all-end-2 c =
    omega (arith, in-buf c.args.buf.now c.args.o c.requires.0)

pub give_all-requires : goal.give_all-requires
give_all-requires c = (
  omega arith,
  dir-many c.args.dir.now c.args.o c.requires.0 c.requires.1,
  (c.requires.2.0, c.requires.2.1, omega (arith, c.requires.2.2, buf-many c.args.buf.now c.args.o c.requires.0)),
)

pub returns : goal.returns
returns c =
    λ x ex.
    gave c.args.o c.requires.0 _ _ _ _ _ _ c.requires.1 c.give_all.auto.dir c.give_all.auto.buf refl refl x.held
    (all-many _ _ 32 x ex) (c.give_all.ensures x ex).0 (c.give_all.ensures x ex).1
