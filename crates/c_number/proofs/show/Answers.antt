-- Case by case; the bytes used are at most five, so they fit 32 bits. Assumes nothing.
use mathlib.Core.Bool.{Bool, true, false}
use mathlib.Core.Path.{◌≡◌, refl}
use Prim.Native.Nat.{ℕ}
use mir.Val.{bool_byte}
use borrow.Author.Rules.{rules}
use Rattle.common.specs.Outcome.{one}
use Rattle.row_spec.specs.Answer.{as_number, number_shown}
use Rattle.c_number.proofs.show.Goals as goal

-- a mark as a byte is 1 or 0
marked : (n k : ℕ) (b : Bool) → as_number 0 n k (bool_byte b) ≡ as_number 0 n k (one b)
marked n k true = refl
marked n k false = refl

pub overflow_cast-result : goal.overflow_cast-result
overflow_cast-result c =
    let few = rw c.in-Ok.is at c.requires in
    search rules

pub returns-in-Ok : goal.returns-in-Ok
unfolding number_shown
returns-in-Ok c = rw c.in-Ok.is (marked _ _ c.in-Ok.n.shortest)

pub returns-in-CutShort : goal.returns-in-CutShort
unfolding number_shown
returns-in-CutShort c = rw (c.in-Err.is, c.in-CutShort.is)

pub returns-in-IllFormed : goal.returns-in-IllFormed
unfolding number_shown
returns-in-IllFormed c = rw (c.in-Err.is, c.in-IllFormed.is)
