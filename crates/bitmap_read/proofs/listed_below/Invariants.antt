-- Those counted and those below j in the bytes that are left are all below j.
-- Assumes nothing.
use lib.ListN.{take, drop}
use mathlib.Core.Path.{◌≡◌}
use Prim.Native.Nat.{◌+◌, ◌-◌, ◌≤◌}
use Rattle.bitmap_spec.specs.Ask as ask
use Rattle.bitmap_read.proofs.listed_below.Given as goal

abbrev pub invariant-loop-i : goal.invariant-loop-i
invariant-loop-i l =
    (l.i ≤ l.n) × (l.below ≤ l.i) × (l.below + ask.below l.j (take (l.n - l.i) (drop (l.at + l.i) l.s)) ≡ ask.below l.j (take l.n (drop l.at l.s)))
