-- By the word that starts in the index's first byte, or bit by bit. Assumes nothing.
use Rattle.bucket_list.proofs.Indexes.{index-small, index_word}
use native.Mathlib.Omega.{arith}
use Rattle.bucket_list.proofs.entries.index_at.Goals as goal

pub returns-then-has : goal.returns-then-has
returns-then-has c =
    let e = index_word c.args.s.now c.args.at c.args.i c.args.w c.requires.0
    (λ k. omega (arith, c.type_inv.s k)) c.low_word-word.result c.past_bits.result
    c.low_word-word.ensures c.past_bits.ensures.0 in
    (e, omega (arith, e, index-small c.args.s.now c.args.at c.args.i c.args.w c.requires.0))
