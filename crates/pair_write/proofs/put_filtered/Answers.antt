-- The members of a sparse container, tested by the bits of the other, are those of the pair; there are fewer than 32.
-- Assumes nothing.
use mathlib.Core.Path.{sym, ap, ◌∙◌}
use native.Mathlib.Omega.{arith}
use Rattle.pair_write.specs.Sides.{pair_members, kept}
use Rattle.pair_write.proofs.Filtered.{filtered, filtered-put}
use Rattle.pair_write.proofs.Joined.{low-room, high-room, loaded, as-block, block_room}
use Rattle.pair_write.proofs.put_filtered.Goals as goal

pub load_sparse-y-requires : goal.load_sparse-y-requires
load_sparse-y-requires c =
    (c.if-e-lt32.true, low-room _ c.args.bt c.args.e c.requires.3 c.if-e-lt32.true)

pub filter-requires : goal.filter-requires
filter-requires c = (
  low-room _ c.args.at c.args.d c.requires.2 c.requires.0,
  block_room _ _ c.load_sparse-y.ensures,
  omega (arith, c.requires.0, c.requires.4),
)

pub overflow_cast-result : goal.overflow_cast-result
overflow_cast-result c =
    omega (arith, c.filter.ensures.1, c.requires.0)

pub returns-then-e-lt32 : goal.returns-then-e-lt32
returns-then-e-lt32 c =
    filtered-put (pair_members c.args.o c.args.a.now c.args.at c.args.d c.args.b.now c.args.bt c.args.e) _
    c.args.out.now _ c.args.to c.filter.result c.args.d
    (filtered c.args.o c.args.a.now c.args.at c.args.d c.args.b.now c.args.bt c.args.e
    c.load_sparse-y.result 0 c.requires.0 c.requires.5 c.requires.1
    (λ p l.
    loaded c.args.b.now c.load_sparse-y.result c.args.bt c.args.e c.if-e-lt32.true c.load_sparse-y.ensures p
    l)
    ∙ ap (kept c.args.a.now c.args.at c.args.d c.load_sparse-y.result 0) (sym c.wanted-w.ensures))
    c.requires.0 c.filter.ensures

pub filter-requires-2 : goal.filter-requires-2
filter-requires-2 c = (
  low-room _ c.args.at c.args.d c.requires.2 c.requires.0,
  high-room _ c.args.bt c.args.e c.requires.3 c.if-e-lt32.false,
  omega (arith, c.requires.0, c.requires.4),
)

pub overflow_cast-result-2 : goal.overflow_cast-result-2
overflow_cast-result-2 c =
    omega (arith, c.filter-2.ensures.1, c.requires.0)

pub returns : goal.returns
returns c =
    filtered-put (pair_members c.args.o c.args.a.now c.args.at c.args.d c.args.b.now c.args.bt c.args.e) _
    c.args.out.now _ c.args.to c.filter-2.result c.args.d
    (filtered c.args.o c.args.a.now c.args.at c.args.d c.args.b.now c.args.bt c.args.e c.args.b.now
    c.args.bt c.requires.0 c.requires.5 c.requires.1 (λ p l. as-block c.args.b.now c.args.bt c.args.e p c.if-e-lt32.false) ∙
    ap (kept c.args.a.now c.args.at c.args.d c.args.b.now c.args.bt) (sym c.wanted-w.ensures))
    c.requires.0 c.filter-2.ensures
