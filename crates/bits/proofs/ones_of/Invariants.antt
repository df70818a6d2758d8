-- Each turn adds the ones of a byte, which are the set bits of its eight: after i bytes the sum is the tally of i * 8 bits.
-- Assumes nothing.
use mathlib.Core.Path.{◌≡◌}
use Prim.Native.Nat.{◌-◌, ◌*◌, ◌≤◌}
use Rattle.bitmap_spec.specs.Bits.{bit}
use Rattle.bitmap_spec.proofs.Tally.{tally}
use Rattle.bits.proofs.ones_of.Given as goal

abbrev pub invariant-loop-i : goal.invariant-loop-i
invariant-loop-i l = (l.i ≤ l.n) × (l.ones ≤ l.i * 8) × (l.ones ≡ tally (bit l.s) (l.at * 8) (l.i * 8))

abbrev pub decreases-loop-i : goal.decreases-loop-i
decreases-loop-i l = l.n - l.i
