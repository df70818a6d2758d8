-- Arrays of its own: 32 bytes for each container.
-- Assumes nothing.
use mathlib.Core.Path.{ap}
use Prim.Native.Nat.{ℕ}
use native.Mathlib.Omega.{arith}
use lib.ListN.{length-replicate, length}
use Rattle.pair_write.specs.Sides.{result_of}
use Rattle.form_write.proofs.Trimming.{no_cells}
use Rattle.pair_write.proofs.Sources.{roomy-count}
use Rattle.pair_place.proofs.Placing.{room}
use Rattle.pair_place.proofs.put_by_arrays.Goals as goal

pub put_through-requires : goal.put_through-requires
put_through-requires g c = (
  c.requires.0,
  room c.args.n g.row.N c.requires.1,
  roomy-count (result_of c.args.o c.args.x c.args.y)
      0 c.args.n 0 _
      (ap length
      (no_cells
      (result_of c.args.o c.args.x c.args.y)))
      (omega (arith, c.requires.1, c.requires.3, length-replicate {A = ℕ} g.row.B 0)),
)

pub whole_as_slice-put_through-2 : goal.whole_as_slice-put_through-2
whole_as_slice-put_through-2 g c = omega (arith, c.requires.2, c.requires.3)
