-- The invariant: v packs the bits of the bytes passed; a turn adds eight bits.
-- Assumes nothing.
use Rattle.bitmap_spec.specs.Bits.{bit, packed}
use mathlib.Core.Path.{◌≡◌}
use Prim.Native.Nat.{◌*◌, ◌≤◌}
use Rattle.blocks.proofs.word.Given as goal

abbrev pub invariant-loop-i : goal.invariant-loop-i
invariant-loop-i l = (l.i ≤ 8) × (l.v ≡ packed (bit l.s) (l.at * 8) (l.i * 8))
