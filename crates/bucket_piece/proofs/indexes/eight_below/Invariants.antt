-- The rest of the eight decides the whole; y is what is left of the word. Assumes nothing.
use Prim.Native.Nat.{◌/◌, ◌%◌, ◌^◌}
use lib.Dec.{ltb}
use Rattle.common.specs.Lists.{from, every}
use mathlib.Core.Path.{◌≡◌}
use Prim.Native.Nat.{◌-◌, ◌*◌}
use Rattle.bucket_piece.proofs.indexes.eight_below.Given as goal

abbrev pub invariant-loop : goal.invariant-loop
invariant-loop l =
    (l.y ≡ l.x / 2 ^ (l.counter * l.w))
    × (every (λ k. ltb (l.x / 2 ^ (k * l.w) % 2 ^ l.w) l.e) (from l.counter (8 - l.counter))
    ≡ every (λ k. ltb (l.x / 2 ^ (k * l.w) % 2 ^ l.w) l.e) (from 0 8))
