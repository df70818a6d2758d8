-- The bytes that fall are counted, and the first bytes among them (the laws all-rise and one-falls).
-- Assumes nothing.
use mathlib.Core.Path.{◌∙◌}
use native.Mathlib.Omega.{arith}
use Rattle.judge.proofs.Descents.{all-rise, one-falls, sum_bound}
use Rattle.judge.proofs.walk_sparse.Goals as goal

pub overflow_cast-result : goal.overflow_cast-result
overflow_cast-result c =
    omega (arith, c.requires.4, c.requires.1, sum_bound c.args.d.now c.args.n c.requires.2)

pub returns-then-all-edges : goal.returns-then-all-edges
returns-then-all-edges c =
    all-rise c.args.s.now c.args.d.now c.args.from c.args.n
    (λ k. omega (arith, c.type_inv.s k))
    c.requires.2
    c.requires.3
    c.requires.4 _ c.all_falls-all.ensures
    (c.if-all-edges.true ∙ c.edges.ensures)

pub returns : goal.returns
returns c =
    one-falls c.args.s.now c.args.d.now c.args.from c.args.n
    (λ k. omega (arith, c.type_inv.s k))
    c.requires.2
    c.requires.3
    c.requires.4 _ _ c.all_falls-all.ensures
    c.edges.ensures c.if-all-edges.false
