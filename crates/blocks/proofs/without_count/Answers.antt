-- The ones of the four joined words are the members in the first alone (four-without).
-- Assumes nothing.
use mathlib.Core.Path.{◌≡◌, ◌∙◌}
use native.Mathlib.Omega.{arith}
use borrow.Author.Rules.{rules}
use Rattle.blocks.specs.Block.{without, Counted}
use Rattle.blocks.proofs.Counts.{counted, four-without}
use Rattle.blocks.proofs.without_count.Goals as goal

pub returns : goal.returns
returns c =
    let made : Counted (λ x y r. r ≡ without x y) c.args.a.now c.args.at c.args.b.now c.args.bt c.count_by.result =
    search rules in
    counted (λ x y. without x y) _ _ _ _ _ made
    ∙ four-without _ _ _ _ (λ k. omega (arith, c.type_inv.a k)) (λ k. omega (arith, c.type_inv.b k))
