-- The definition, case by case.
-- Assumes nothing.
use mathlib.Core.Path.{sym, ap, ◌∙◌}
use Prim.Native.Nat.{ℕ}
use lib.Dec.{eqb}
use Rattle.pair_write.proofs.Capped.{union-kept, union-lost}
use Rattle.pair_write.proofs.is_union.Goals as goal

pub returns-then-keeps_second : goal.returns-then-keeps_second
returns-then-keeps_second c =
    ap (λ (n : ℕ). eqb n 1) c.wanted.ensures ∙ union-kept c.args.o
    (sym c.keeps_second.ensures ∙ c.if-keeps_second.true)

pub returns : goal.returns
returns c = union-lost c.args.o (sym c.keeps_second.ensures ∙ c.if-keeps_second.false)
