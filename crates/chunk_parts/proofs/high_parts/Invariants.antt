-- The parts so far are written: the bits above b of the value at each offset.
-- Assumes nothing.
use mathlib.Core.List.{map}
use Prim.Native.Nat.{◌/◌, ◌^◌}
use lib.ListN.{take, length, get_or}
use Rattle.bitmap_spec.specs.Output.{written}
use mathlib.Core.Path.{◌≡◌}
use Rattle.chunk_parts.proofs.high_parts.Given as goal

abbrev pub invariant-loop-j : goal.invariant-loop-j
invariant-loop-j l =
    (length l.out ≡ length l.initial.out) × (l.out ≡ written l.initial.out 0
    (map (λ i. get_or l.vs i 0 / 2 ^ l.b) (take l.j l.offs)))
