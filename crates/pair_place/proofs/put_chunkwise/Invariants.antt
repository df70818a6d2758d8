-- The invariant: the descriptors of the containers passed, and their bytes behind one another in the output.
-- Assumes nothing.
use mathlib.Core.List.{map}
use mathlib.Core.Path.{◌≡◌}
use Prim.Native.Nat.{◌-◌, ◌≤◌}
use lib.ListN.{length}
use Rattle.common.specs.Lists.{from}
use Rattle.bitmap_spec.specs.Form.{cut, write_containers}
use Rattle.bitmap_spec.specs.Output.{written}
use Rattle.form_write.specs.Described.{descs_to}
use Rattle.pair_write.specs.Sides.{Reaches, result_of}
use Rattle.pair_place.proofs.put_chunkwise.Given as goal

abbrev pub invariant-loop-k : goal.invariant-loop-k
invariant-loop-k l =
    (l.k ≤ l.n)
    × Reaches (result_of l.o l.x l.y) l.x l.y l.k l.p
    × (length l.ds ≡ length l.initial.ds)
    × (length l.body ≡ length l.initial.body)
    × (length l.out ≡ length l.initial.out)
    × (l.ds ≡ written l.initial.ds 0 (descs_to (result_of l.o l.x l.y) l.k))
    × (l.out ≡ written l.initial.out l.to (write_containers (map (cut (result_of l.o l.x l.y)) (from 0 l.k))))

abbrev pub decreases-loop-k : goal.decreases-loop-k
decreases-loop-k l = l.n - l.k
