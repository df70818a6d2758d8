-- The invariant: the values passed are written less m.
-- Assumes nothing.
use mathlib.Core.List.{map}
use lib.ListN.{take}
use Rattle.bitmap_spec.specs.Output.{written}
use mathlib.Core.Path.{◌≡◌}
use Prim.Native.Nat.{◌-◌}
use lib.ListN.{length}
use Rattle.chunk_parts.proofs.less.Given as goal

abbrev pub invariant-loop-i : goal.invariant-loop-i
invariant-loop-i l = (length l.vs ≡ length l.initial.vs)
    × (l.vs ≡ written l.initial.vs 0 (map (λ d. d - l.m) (take l.i l.ds)))
