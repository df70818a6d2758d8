-- The invariant: the descriptors of the containers passed are filled in, and i is where the next run begins.
-- Assumes nothing.
use Rattle.bitmap_spec.specs.Output.{written}
use Rattle.form_write.specs.Described.{descs_to}
use Rattle.bitmap_write.specs.Run.{Below}
use mathlib.Core.Path.{◌≡◌}
use Prim.Native.Nat.{◌*◌, ◌≤◌}
use lib.ListN.{length}
use Rattle.bitmap_write.proofs.describe.Given as goal

abbrev pub invariant-loop-k : goal.invariant-loop-k
invariant-loop-k l = (l.k ≤ l.n) × (l.n ≤ 8192) × (length l.ds ≡ length l.initial.ds) × Below l.ps (l.k * 256) l.i
    × (l.ds ≡ written l.initial.ds 0 (descs_to l.ps l.k))
