-- One of two whose other is empty is counted by its descriptor: a dense one has 32 members or more.
-- Assumes nothing.
use mathlib.Core.Path.{ap}
use Prim.Native.Nat.{min, ℕ}
use native.Mathlib.Omega.{arith}
use Rattle.pair_write.proofs.Capped.{first-empty, second_empty}
use Rattle.pair_write.proofs.Marking.{later-fresh}
use Rattle.pair_write.proofs.pair_count.Goals as goal
use Rattle.pair_write.proofs.pair_count.Goals.{then-d-lt32+else-e-lt32, else-d-lt32}

pub joined_count-requires : goal.joined_count-requires
joined_count-requires c =
    (omega arith, omega arith, omega arith, omega (arith, c.ranges.e))

pub returns-then-d-eq0 : goal.returns-then-d-eq0
returns-then-d-eq0 c = (
  first-empty c.args.o c.args.a.now c.args.at c.args.d c.args.b.now c.args.bt c.args.e c.requires.0 c.requires.1
      c.requires.2 c.requires.3 _ c.if-d-eq0.true c.joined_count.ensures,
  later-fresh _ c.args.stamp _ (omega arith) c.requires.4,
)

pub joined_count-requires-then-e-eq0 : goal.joined_count-requires-then-e-eq0
joined_count-requires-then-e-eq0 c =
    (omega arith, omega arith, omega (arith, c.ranges.d), omega arith)

pub returns-then-e-eq0 : goal.returns-then-e-eq0
returns-then-e-eq0 c = (
  second_empty c.args.o c.args.a.now c.args.at c.args.d c.args.b.now c.args.bt c.args.e c.requires.0 c.requires.1
      c.requires.2 c.requires.3 _ c.if-e-eq0.true c.joined_count-then-e-eq0.ensures,
  later-fresh _ c.args.stamp _ (omega arith) c.requires.4,
)

pub sparse_count-requires : goal.sparse_count-requires
sparse_count-requires c =
    (c.if-d-lt32.true, c.if-e-lt32.true, c.requires.0, c.requires.1, c.requires.2, c.requires.3, c.requires.4)

pub returns-then-e-lt32 : goal.returns-then-e-lt32
returns-then-e-lt32 c =
    (ap (λ (n : ℕ). min n 32) c.sparse_count.ensures.0, c.sparse_count.ensures.1)

pub mixed_count-requires : goal.mixed_count-requires
mixed_count-requires c = (
  elim c.if-d-lt32.branch [
    | then-d-lt32+else-e-lt32 w ↦ omega arith
    | else-d-lt32 w ↦ omega arith
  ],
  c.requires.0,
  c.requires.1,
  c.requires.2,
  c.requires.3,
)

pub returns : goal.returns
returns c =
    (c.mixed_count.ensures, later-fresh _ c.args.stamp _ (omega arith) c.requires.4)
