-- The invariant (Along): the containers passed are written, and i is where the next run begins.
-- Assumes nothing.
use mathlib.Core.List.{map}
use Rattle.common.specs.Lists.{from}
use Rattle.bitmap_spec.specs.Form.{cut, write_containers}
use Rattle.bitmap_laws.proofs.Output.{Along}
use Rattle.bitmap_write.specs.Run.{Below}
use Prim.Native.Nat.{◌-◌, ◌*◌, ◌≤◌}
use Rattle.bitmap_write.proofs.put_runs.Given as goal

abbrev pub invariant-loop-k : goal.invariant-loop-k
invariant-loop-k l = (l.k ≤ l.n) × Below l.ps (l.k * 256) l.i
    × Along l.initial.out l.out l.at l.t (write_containers (map (cut l.ps) (from l.k (l.n - l.k))))
    (write_containers (map (cut l.ps) (from 0 l.n)))
