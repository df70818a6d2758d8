-- The set bits of the word's low end. Assumes nothing.
use lib.Count.{ones}
use Rattle.common.proofs.LowBits.{count-le}
use Rattle.bucket_piece.proofs.Words.{masked, count_cut}
use mathlib.Core.Path.{ap, ◌∙◌}
use Prim.Native.Nat.{◌%◌, ◌^◌, ℕ}
use native.Mathlib.Omega.{arith}
use Rattle.bucket_piece.proofs.bits.count_few.Goals as goal

pub returns-then-has : goal.returns-then-has
returns-then-has c =
    let e = c.ones_of.ensures.0 ∙ ap ones
    (masked c.low_word.result c.past_bits.result c.args.n c.past_bits.ensures.0 ∙ ap
    (λ (x : ℕ). x % 2 ^ c.args.n) c.low_word.ensures)
    ∙ count_cut c.args.s.now (λ k. omega (arith, c.type_inv.s k)) c.args.at c.args.n
    (omega arith) in
    (e, omega (arith, e, count-le c.args.s.now c.args.at c.args.n))
