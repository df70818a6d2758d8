-- From the last column on: the spans made so far are the definition's. Assumes nothing.
use lib.ListN.{take, drop, length, get_or}
use Rattle.row_codes.specs.Codes.{span_of}
use mathlib.Core.Path.{◌≡◌}
use Prim.Native.Nat.{ℕ, ◌≤◌, ◌<◌}
use Rattle.row_codes.proofs.spans_of.Given as goal

abbrev pub invariant-loop-i : goal.invariant-loop-i
invariant-loop-i l = (l.i ≤ l.n) × (length l.spans ≡ 64) × (l.span ≡ span_of (drop l.i (take l.n l.codes)))
    × ((j : ℕ) → l.i ≤ j → j < l.n → get_or l.spans j 0 ≡ span_of (drop j (take l.n l.codes)))
