-- Each turn adds the ones of a byte, which are the set bits of its eight: after i bytes the sum is the tally of i * 8 bits.
-- Assumes nothing.
use lib.Count.{ones-le}
use borrow.Author.Rules.{rules}
use mathlib.Core.Path.{◌≡◌}
use Prim.Native.Nat.{◌+◌, ◌<◌}
use native.Mathlib.Omega.{arith}
use lib.ListN.{get_or}
use Rattle.bitmap_spec.proofs.Tally.{tally, tally-more}
use Rattle.bits.proofs.ones_of.Goals as goal

byte : (c : goal.After-shared_slice_known-1) → get_or c.args.s.now (c.args.at + c.loop-i.i) 0 < 256
byte c = omega (arith, c.type_inv.s (c.args.at + c.loop-i.i))

pub loop-i-init : goal.loop-i-init
unfolding tally
loop-i-init c = search rules

pub overflow_add-ones-in-loop-i : goal.overflow_add-ones-in-loop-i
overflow_add-ones-in-loop-i c = omega (arith, ones-le 8 _ (byte c))

pub loop-i-preserved : goal.loop-i-preserved
loop-i-preserved c =
    let a = c.args in (
      omega arith,
      omega (arith, ones-le 8 _ (byte c)),
      omega (arith, tally-more a.s.now a.at c.loop-i.i (byte c)),
    )

pub returns : goal.returns
returns c =
    let e : c.loop-i.i ≡ c.args.n = omega arith in
    rw (← e) (c.loop-i.invariant.2, c.loop-i.invariant.1)
