-- Past the bytes the definition reads 0; within them it is the bit. Assumes nothing.
use Rattle.common.proofs.LowBits.{bit-small}
use Rattle.numbers.proofs.Bits.{bit_past}
use mathlib.Core.Path.{sym}
use native.Mathlib.Omega.{arith}
use Rattle.numbers.proofs.bit_at.Goals as goal

pub returns-then-s-at : goal.returns-then-s-at
returns-then-s-at c =
    let args = c.args in
    (sym (bit_past args.s.now args.at args.i (omega arith)), omega arith)

pub returns : goal.returns
returns c = (c.low_bit.ensures, rw c.low_bit.ensures (bit-small _ _ _))
