-- The set bits before bit j are those of j / 8 whole bytes and of the top j % 8 bits of the next (the law below-dense).
-- Assumes nothing.
use Prim.Native.Nat.{◌/◌, ◌+◌}
use native.Mathlib.Omega.{arith}
use Rattle.bits.proofs.Below.{below-dense}
use Rattle.bits.proofs.dense_below.Goals as goal

pub returns : goal.returns
returns c = below-dense c.args.s.now c.args.at c.args.j _ (omega arith) (omega (arith, c.type_inv.s (c.args.at + c.args.j / 8))) c.ones_of-whole.ensures.0
