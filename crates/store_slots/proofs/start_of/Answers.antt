-- The number is in the directory.
-- Assumes nothing.
use Rattle.store_spec.specs.Store.{start_at}
use mathlib.Core.Path.{refl}
use Prim.Native.Nat.{◌*◌}
use native.Mathlib.Omega.{arith}
use Rattle.store_slots.proofs.start_of.Goals as goal

pub overflow_cast-result : goal.overflow_cast-result
overflow_cast-result c = omega (arith, c.type_inv.dir (2 * c.args.k))

pub returns : goal.returns
unfolding start_at
returns c = (refl, omega (arith, c.type_inv.dir (2 * c.args.k)))
