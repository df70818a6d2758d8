-- A call's record for an answer is its record for what the answer stands for. Assumes nothing.
use mathlib.Core.Path.{◌≡◌}
use Prim.Native.Nat.{ℕ}
use Rattle.common.specs.Outcome.{Outcome, Call}

pub handed-on : {A B : Type 0} {o p : Outcome A} {f : A → B} {r : ℕ} {before now : B} → o ≡ p → Call o f r before now
    → Call p f r before now
handed-on e h = rw (← e) h
