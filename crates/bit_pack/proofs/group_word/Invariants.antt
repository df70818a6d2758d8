-- The invariant: x has the values so far, each below the ones before it; eight values of up to eight bits fit.
-- Assumes nothing.
use mathlib.Core.Path.{◌≡◌}
use Prim.Native.Nat.{◌+◌, ◌*◌, ◌≤◌}
use lib.ListN.{get_or}
use Rattle.bitmap_spec.specs.Bits.{packed, value_bit}
use Rattle.bit_pack.proofs.group_word.Given as goal

abbrev pub invariant-loop-t : goal.invariant-loop-t
invariant-loop-t l = (l.t ≤ 8) × (l.x ≡ packed (value_bit (λ k. get_or l.vals (l.i + k) 0) l.w 8) 0 (l.t * l.w))
