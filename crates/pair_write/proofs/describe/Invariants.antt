-- The invariant: the descriptors of the containers passed; at and bt are where the next two lie; no mark is above k, so
-- container k's stamp, k + 1, is new.
-- Assumes nothing.
use mathlib.Core.Path.{◌≡◌}
use mathlib.Core.List.{List, ◌++◌}
use Prim.Native.Nat.{ℕ, ◌+◌, ◌-◌, ◌≤◌}
use lib.ListN.{length, replicate}
use Rattle.bitmap_spec.specs.Output.{written}
use Rattle.form_write.specs.Described.{descs_to}
use Rattle.pair_write.specs.Sides.{place_at, Fresh, result_of}
use Rattle.pair_write.proofs.describe.Given as goal

abbrev pub invariant-loop-k : goal.invariant-loop-k
invariant-loop-k l =
    (l.k ≤ l.n)
    × (l.at ≡ place_at l.x l.k)
    × (l.bt ≡ place_at l.y l.k)
    × (length l.ds ≡ length l.initial.ds)
    × (length l.marks ≡ 256)
    × ((first : List ℕ) → l.n ≤ length first
    → l.initial.ds ≡ written first 0 (descs_to (result_of l.o l.x l.y) 0 ++ replicate (l.n - 0) 0)
    → l.ds ≡ written first 0 (descs_to (result_of l.o l.x l.y) l.k ++ replicate (l.n - l.k) 0))
    × Fresh l.marks (l.k + 1)

abbrev pub decreases-loop-k : goal.decreases-loop-k
decreases-loop-k l = l.n - l.k
