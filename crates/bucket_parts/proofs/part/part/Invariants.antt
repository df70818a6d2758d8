-- The starts so far are the first of the array, and the rest of the columns gives the whole. Assumes nothing.
use mathlib.Core.Path.{◌≡◌}
use mathlib.Core.List.{[]}
use Prim.Native.Nat.{ℕ, ◌-◌}
use lib.ListN.{take, length}
use Rattle.common.specs.Outcome.{Outcome}
use Rattle.bucket_spec.specs.Bucket.{along}
use Rattle.bucket_parts.specs.Told.{Steps}
use Rattle.bucket_parts.proofs.part.part.Given as goal

abbrev pub invariant-loop-i : goal.invariant-loop-i
invariant-loop-i g l = record {
  room : length l.starts ≡ 64;
  rest : (step : ℕ → ℕ → Outcome ℕ) → Steps l.n step (goal.F-post g l.end)
      → along step l.i (l.n - l.i) l.at (take l.i l.starts) ≡ along step 0 l.n l.from [];
}
