-- The zeros of the word are those of its first bytes (empty-low).
-- Assumes nothing.
use native.Mathlib.Omega.{arith}
use lib.Count.{trailing_le}
use Rattle.words.proofs.Empty.{empty-low}
use Rattle.words.proofs.empty_bytes.Goals as goal

pub returns : goal.returns
returns c =
    let args = c.args in
    let word = c.low_word in (
      omega (arith, trailing_le 64 word.result),
      rw word.ensures
          (empty-low args.s.now (λ k. omega (arith, c.type_inv.s k)) 8 args.at),
    )
