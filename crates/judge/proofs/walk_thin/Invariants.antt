-- Rest invariant: the walk over what is left, with as many members as bytes passed, is the whole walk.
-- Assumes nothing.
use mathlib.Core.Path.{◌≡◌}
use Prim.Native.Nat.{◌+◌, ◌-◌, ◌≤◌}
use lib.ListN.{length, take, drop}
use Rattle.common.specs.Lists.{sum}
use Rattle.bitmap_spec.specs.Judge.{size_of}
use Rattle.bitmap_spec.proofs.Reading.{walk}
use Rattle.judge.proofs.walk_thin.Given as goal

abbrev pub invariant-loop-i : goal.invariant-loop-i
invariant-loop-i l =
    (l.i ≤ l.n) × (l.from ≤ l.at) × (l.at + sum size_of (drop l.i (take l.n l.d)) ≡ length l.s) ×
    (walk l.s l.at (l.at - l.from) (drop l.i (take l.n l.d)) ≡ walk l.s l.from 0 (take l.n l.d))

abbrev pub decreases-loop-i : goal.decreases-loop-i
decreases-loop-i l = l.n - l.i
