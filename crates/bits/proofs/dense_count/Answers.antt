-- A dense container's members are the ones of its four words (the law four-words). Each word has at most 64, so the
-- sum fits. Assumes nothing.
use native.Mathlib.Omega.{arith}
use Rattle.bits.proofs.Words.{four-words}
use Rattle.bits.proofs.dense_count.Goals as goal

pub returns : goal.returns
returns c =
    let args = c.args in
    let known = c.type_inv.s in
    let first = c.word_ones.ensures.0 in
    let second = c.word_ones-2.ensures.0 in
    let third = c.word_ones-3.ensures.0 in
    let fourth = c.word_ones-4.ensures.0 in
    let law = four-words args.s.now (λ k. omega (arith, known k)) args.at in
    omega (arith, first, second, third, fourth, law)
