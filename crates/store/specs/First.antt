-- What an owner's call asks before any slot is judged.
use Rattle.std.specs.Prelude.{ℕ, eqb}
use Rattle.common.specs.Outcome.{Outcome, found, need}
use Rattle.store_spec.specs.Owners.{on_slot}

-- the refusal of owner o's call on slot k of a directory of so many numbers, or nothing
unfoldable pub first_refusal : ℕ → ℕ → ℕ → Outcome (Unit {0})
first_refusal o k numbers = on_slot o k (need (eqb numbers 128) 42 (found tt))
