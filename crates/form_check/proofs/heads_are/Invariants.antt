-- The heads from each chunk on, with those before it found right, are all heads; what is left was read as chunks.
-- Assumes nothing.
use mathlib.Core.Path.{◌≡◌}
use Prim.Native.Nat.{◌/◌}
use lib.ListN.{length}
use Rattle.form_check.specs.Heads.{heads_are}
use Rattle.form_check.proofs.Walks.{Left}
use Rattle.form_check.proofs.heads_are.Given as goal

abbrev pub invariant-loop-chunk : goal.invariant-loop-chunk
invariant-loop-chunk l =
    (l.chunk-iterator.size ≡ 256)
    × Left l.s l.at (length l.chunk-iterator.rest.now)
    × (heads_are l.s l.at (length l.chunk-iterator.rest.now / 256) l.chunk-iterator.rest.now ≡ heads_are l.s 6 (length l.ds / 256) l.ds)
