-- Byte by byte: after q bytes the set ones of q * 8 bits stand first in out.
-- Assumes nothing.
use mathlib.Core.Path.{refl}
use Prim.Native.Nat.{◌*◌}
use native.Mathlib.Omega.{arith}
use Rattle.bitmap_list.proofs.Decoding.{spread_none, spread-all}
use Rattle.bitmap_list.proofs.dense_members.Goals as goal

pub loop-q-init : goal.loop-q-init
loop-q-init c =
    (omega arith, refl, spread_none c.args.s.now c.args.at c.args.out.now c.requires.1)

pub returns : goal.returns
returns c =
    spread-all c.args.s.now c.args.at c.loop-q.out c.loop-q.n (c.loop-q.q * 8) c.loop-q.invariant.2
    (omega (arith, c.loop-q-test.false))
