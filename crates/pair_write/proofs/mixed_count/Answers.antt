-- A union keeps the 32 members or more of the dense container; all else is counted.
-- Assumes nothing.
use mathlib.Core.Path.{sym, ap, ◌∙◌}
use Prim.Native.Nat.{min, ℕ}
use native.Mathlib.Omega.{arith}
use Rattle.pair_write.proofs.Capped.{union-full}
use Rattle.pair_write.proofs.mixed_count.Goals as goal

pub returns-then-is_union : goal.returns-then-is_union
returns-then-is_union c =
    union-full c.args.o c.args.a.now c.args.at c.args.d c.args.b.now c.args.bt c.args.e c.requires.1 c.requires.2
    c.requires.3 c.requires.4 (sym c.is_union.ensures ∙ c.if-is_union.true) c.requires.0

pub dense_sparse-requires : goal.dense_sparse-requires
dense_sparse-requires c =
    (omega (arith, c.requires.0, c.if-e-lt32.true), c.if-e-lt32.true, c.requires.1, c.requires.2, c.requires.3, c.requires.4)

pub returns-then-e-lt32 : goal.returns-then-e-lt32
returns-then-e-lt32 c = ap (λ (n : ℕ). min n 32) c.dense_sparse.ensures

pub sparse_dense-requires : goal.sparse_dense-requires
sparse_dense-requires c =
    (c.if-d-lt32.true, c.if-e-lt32.false, c.requires.1, c.requires.2, c.requires.3, c.requires.4)

pub returns-then-d-lt32 : goal.returns-then-d-lt32
returns-then-d-lt32 c = ap (λ (n : ℕ). min n 32) c.sparse_dense.ensures

pub dense_dense-requires : goal.dense_dense-requires
dense_dense-requires c =
    (c.if-d-lt32.false, c.if-e-lt32.false, c.requires.1, c.requires.2, c.requires.3, c.requires.4)

pub returns : goal.returns
returns c = c.dense_dense.ensures
