-- The rest of the columns decides the whole. Assumes nothing.
use Rattle.common.specs.Lists.{from, every}
use Rattle.row_spec.specs.Schema.{columns_of}
use Rattle.bucket_spec.specs.Bucket.{tag_allowed}
use mathlib.Core.Path.{◌≡◌}
use Prim.Native.Nat.{◌-◌}
use Rattle.bucket_parts.proofs.whole.all_allowed.Given as goal

abbrev pub invariant-loop-j : goal.invariant-loop-j
invariant-loop-j l =
    every (tag_allowed (columns_of l.sc) l.f.rows l.s l.f.tags l.f.has) (from l.j (l.sc.count - l.j))
    ≡ every (tag_allowed (columns_of l.sc) l.f.rows l.s l.f.tags l.f.has) (from 0 l.sc.count)
