-- The offsets so far are written: those of the widths over b.
-- Assumes nothing.
use lib.ListN.{length}
use Rattle.bitmap_spec.specs.Output.{written}
use Rattle.chunk_parts.specs.Kept.{offsets}
use mathlib.Core.Path.{◌≡◌}
use Rattle.chunk_parts.proofs.put_offsets.Given as goal

abbrev pub invariant-loop-i : goal.invariant-loop-i
invariant-loop-i l =
    (length l.out ≡ length l.initial.out) × (l.e ≡ length (offsets l.ws l.b l.i))
    × (l.out ≡ written l.initial.out l.at (offsets l.ws l.b l.i))
