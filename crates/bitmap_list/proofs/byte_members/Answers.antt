-- After each bit the set ones among those passed stand first in out; a bit that is not set is written over by the next.
-- Assumes nothing.
use lib.ListN.{length-set}
use mathlib.Core.Path.{◌≡◌, refl, ◌∙◌}
use Prim.Native.Nat.{◌+◌, ◌*◌}
use native.Mathlib.Omega.{arith}
use Rattle.bitmap_list.proofs.Decoding.{spread-bit}
use Rattle.bitmap_list.proofs.byte_members.Goals as goal

pub loop-i-preserved : goal.loop-i-preserved
loop-i-preserved c =
    let e : c.args.q * 8 + (c.loop-i.i + 1) ≡ c.args.q * 8 + c.loop-i.i + 1 = omega arith in (
      omega arith,
      refl,
      length-set c.loop-i.out c.loop-i.m _ ∙ c.loop-i.invariant.2,
      rw e
          (spread-bit c.args.s.now c.args.at c.loop-i.out c.loop-i.m (c.args.q * 8 + c.loop-i.i) c.loop-i.invariant.3 c.args.q c.loop-i.i _
          c.requires.1 c.loop-i-test.true refl
          c.bit_of.ensures),
    )
