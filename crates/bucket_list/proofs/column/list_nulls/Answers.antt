-- Null is three zeros. Assumes nothing.
use mathlib.Core.Path.{ap, ◌∙◌}
use Prim.Native.Nat.{ℕ, ◌*◌}
use lib.ListN.{replicate}
use lib.Seq.{length-take-le}
use borrow.Author.Rules.{rules}
use Rattle.bucket_list.proofs.Lists.{nulls-listed}
use Rattle.bucket_list.proofs.column.list_nulls.Goals as goal

pub returns : goal.returns
returns c =
    nulls-listed c.args.n c.args.list.now c.fill.new.self
    (c.fill.ensures.after (λ y e. search rules)
    ∙ ap (λ (k : ℕ). replicate k 0) (length-take-le (3 * c.args.n) c.args.list.now c.requires))
