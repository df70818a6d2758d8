-- What the calls that write a bitmap return and leave behind.
use Rattle.std.specs.Prelude.{ℕ, ◌≡◌, List, length}
use Rattle.common.specs.Outcome.{Outcome, status, after}
use Rattle.bitmap_spec.specs.Output as output

-- a call of outcome o returns r, turns the output before into rest, and the length was into now
pub record WriteCall (o : Outcome (List ℕ)) (r : ℕ) (before rest : List ℕ) (was now : ℕ) : Type 0 where
  pub says : r ≡ status o
  pub holds : rest ≡ output.after o before
  pub gives : now ≡ after o length was
