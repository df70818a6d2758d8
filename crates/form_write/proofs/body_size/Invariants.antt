-- The invariant: the size so far and that of what is left make the size of all.
-- Assumes nothing.
use lib.ListN.{drop}
use Rattle.common.specs.Lists.{sum}
use Rattle.bitmap_spec.specs.Judge.{size_of}
use mathlib.Core.Path.{◌≡◌}
use Prim.Native.Nat.{◌+◌, ◌*◌, ◌≤◌}
use Rattle.form_write.proofs.body_size.Given as goal

abbrev pub invariant-loop-d : goal.invariant-loop-d
invariant-loop-d l = (l.t ≤ l.d-index * 32) × (l.t + sum size_of (drop l.d-index l.ds) ≡ sum size_of l.ds)
