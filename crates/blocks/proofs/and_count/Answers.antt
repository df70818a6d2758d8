-- The ones of the four joined words are the members in both (four-and).
-- Assumes nothing.
use mathlib.Core.Path.{◌≡◌, ◌∙◌}
use native.Mathlib.Omega.{arith}
use borrow.Author.Rules.{rules}
use lib.Bits.{bit_and}
use Rattle.blocks.specs.Block.{Counted}
use Rattle.blocks.proofs.Counts.{counted, four-and}
use Rattle.blocks.proofs.and_count.Goals as goal

pub returns : goal.returns
returns c =
    let made : Counted (λ x y r. r ≡ bit_and x y) c.args.a.now c.args.at c.args.b.now c.args.bt c.count_by.result =
    search rules in
    counted (λ x y. bit_and x y) _ _ _ _ _ made
    ∙ four-and _ _ _ _ (λ k. omega (arith, c.type_inv.a k)) (λ k. omega (arith, c.type_inv.b k))
