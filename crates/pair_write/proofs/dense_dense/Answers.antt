-- Dense containers are blocks as they stand; a union keeps the 32 members or more of either.
-- Assumes nothing.
use mathlib.Core.Path.{ap, ◌∙◌}
use Prim.Native.Nat.{min, ℕ}
use native.Mathlib.Omega.{arith}
use lib.ListN.{length}
use Rattle.bitmap_spec.specs.declared.Operation.TheVariants.{Intersection, Difference, SymmetricDifference}
use Rattle.pair_write.proofs.Capped.{union-full, blocks-are}
use Rattle.pair_write.proofs.Joined.{high-room}
use Rattle.pair_write.proofs.dense_dense.Goals as goal

pub and_count-requires : goal.and_count-requires
and_count-requires c =
    (high-room _ c.args.at c.args.d c.requires.2 c.requires.0, high-room _ c.args.bt c.args.e c.requires.3 c.requires.1)

pub without_count-requires : goal.without_count-requires
without_count-requires c =
    (high-room _ c.args.at c.args.d c.requires.2 c.requires.0, high-room _ c.args.bt c.args.e c.requires.3 c.requires.1)

pub xor_count-requires : goal.xor_count-requires
xor_count-requires c =
    (high-room _ c.args.at c.args.d c.requires.2 c.requires.0, high-room _ c.args.bt c.args.e c.requires.3 c.requires.1)

pub returns-in-Union : goal.returns-in-Union
returns-in-Union c =
    union-full c.args.o c.args.a.now c.args.at c.args.d c.args.b.now c.args.bt c.args.e c.requires.2 c.requires.3
    c.requires.4 c.requires.5 (rw c.in-Union.is) (omega (arith, c.requires.0))

pub returns-in-Intersection : goal.returns-in-Intersection
returns-in-Intersection c =
    rw c.in-Intersection.is
    (ap (λ (n : ℕ). min n 32)
    (c.and_count.ensures ∙ ap length
    (blocks-are Intersection c.args.a.now c.args.at c.args.d c.args.b.now c.args.bt c.args.e
    c.requires.0 c.requires.1)))

pub returns-in-Difference : goal.returns-in-Difference
returns-in-Difference c =
    rw c.in-Difference.is
    (ap (λ (n : ℕ). min n 32)
    (c.without_count.ensures ∙ ap length
    (blocks-are Difference c.args.a.now c.args.at c.args.d c.args.b.now c.args.bt c.args.e
    c.requires.0 c.requires.1)))

pub returns-in-SymmetricDifference : goal.returns-in-SymmetricDifference
returns-in-SymmetricDifference c =
    rw c.in-SymmetricDifference.is
    (ap (λ (n : ℕ). min n 32)
    (c.xor_count.ensures ∙ ap length
    (blocks-are SymmetricDifference c.args.a.now c.args.at c.args.d c.args.b.now c.args.bt
    c.args.e c.requires.0 c.requires.1)))
