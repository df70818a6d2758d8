-- Both bitmaps' containers fit into the array, or the form fits by its bound, or by its length; else it is refused.
-- Assumes nothing.
use Prim.Native.Nat.{ℕ}
use native.Mathlib.Omega.{arith}
use lib.ListN.{length-replicate}
use Rattle.bitmap_spec.specs.Form.{form}
use Rattle.bitmap_laws.proofs.Output.{refuse13}
use Rattle.pair_write.specs.Sides.{result_of}
use Rattle.pair_write.proofs.Passing.{form-most}
use Rattle.pair_write.proofs.Sources.{roomy-bytes, side-most}
use Rattle.pair_place.proofs.Placing.{room}
use Rattle.pair_place.proofs.put_large.Goals as goal

pub put_through-requires : goal.put_through-requires
put_through-requires c = (
  c.requires.0,
  room c.args.n 8192 (omega (arith, c.requires.0, c.args.x.sound.few, c.args.y.sound.few)),
  roomy-bytes c.args.o c.args.x c.args.y
      c.args.n _ (omega (arith, c.requires.1, c.if-most-le8160.true, length-replicate {A = ℕ} 8192 0)),
)

pub bound-requires : goal.bound-requires
bound-requires c = (
  omega (arith, c.requires.0, c.args.x.sound.few, c.args.y.sound.few),
  omega (arith, c.requires.1, side-most c.args.x, side-most c.args.y),
)

pub put_known-requires : goal.put_known-requires
put_known-requires c = (
  c.requires.0,
  room c.args.n 8192 (omega (arith, c.requires.0, c.args.x.sound.few, c.args.y.sound.few)),
  room 8192 8192 (omega arith),
  omega (
    arith,
    c.if-bound-out.true,
    c.bound.ensures,
    form-most c.args.o c.args.x c.args.y c.args.n c.requires.0 c.args.most c.requires.1,
  ),
)

pub form_length-requires : goal.form_length-requires
form_length-requires c = (
  c.requires.0,
  room c.args.n 8192 (omega (arith, c.requires.0, c.args.x.sound.few, c.args.y.sound.few)),
)

pub put_known-requires-then-form_length-out : goal.put_known-requires-then-form_length-out
put_known-requires-then-form_length-out c = (
  c.requires.0,
  omega (
    arith,
    c.form_length.auto.ds,
    room c.args.n 8192 (omega (arith, c.requires.0, c.args.x.sound.few, c.args.y.sound.few)),
  ),
  room 8192 8192 (omega arith),
  omega (arith, c.if-form_length-out.true, c.form_length.ensures),
)

pub returns : goal.returns
returns c =
    refuse13 (form (result_of c.args.o c.args.x c.args.y))
    c.args.out.now (omega (arith, c.if-form_length-out.false, c.form_length.ensures))
