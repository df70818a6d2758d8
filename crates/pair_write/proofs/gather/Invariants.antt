-- The invariant: members, descriptors and bytes of the containers passed; at and bt are where the next two lie, t where
-- the next one goes.
-- Assumes nothing.
use mathlib.Core.List.{List, ◌++◌, map}
use mathlib.Core.Path.{◌≡◌}
use Prim.Native.Nat.{ℕ, ◌+◌, ◌-◌, ◌*◌, ◌≤◌}
use lib.ListN.{take, length, replicate}
use Rattle.common.specs.Lists.{keep, from, mem}
use Rattle.bitmap_spec.specs.Form.{cut, write_containers}
use Rattle.bitmap_spec.specs.Output.{written}
use Rattle.form_write.specs.Described.{descs_to}
use Rattle.pair_write.specs.Sides.{place_at, result_of}
use Rattle.pair_write.proofs.gather.Given as goal

abbrev pub invariant-loop-k : goal.invariant-loop-k
invariant-loop-k l =
    (l.start ≤ l.k)
    × (l.k ≤ l.n)
    × (l.card ≤ l.k * 256)
    × (l.t ≤ length l.initial.body)
    × (l.at ≡ place_at l.x l.k)
    × (l.bt ≡ place_at l.y l.k)
    × (length l.ds ≡ length l.initial.ds)
    × (length l.body ≡ length l.initial.body)
    × (l.card ≡ length (keep (λ z. mem z (result_of l.o l.x l.y)) (from 0 (l.k * 256))))
    × (l.p.size + l.t ≡ length (write_containers (map (cut (result_of l.o l.x l.y)) (from 0 l.k))))
    × ((first : List ℕ) → l.n ≤ length first
    → l.initial.ds ≡ written first 0 (descs_to (result_of l.o l.x l.y) l.start ++ replicate (l.n - l.start) 0)
    → l.ds ≡ written first 0 (descs_to (result_of l.o l.x l.y) l.k ++ replicate (l.n - l.k) 0))
    × (write_containers (map (cut (result_of l.o l.x l.y)) (from 0 l.start)) ++ take l.t l.body
    ≡ write_containers (map (cut (result_of l.o l.x l.y)) (from 0 l.k)))

abbrev pub decreases-loop-k : goal.decreases-loop-k
decreases-loop-k l = l.n - l.k
