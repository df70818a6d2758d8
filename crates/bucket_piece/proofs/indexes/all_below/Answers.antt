-- The rest of the groups decides the whole, then the rest of the indexes. Assumes nothing.
use Prim.Native.Nat.{◌/◌, ◌%◌, ◌^◌}
use lib.Dec.{ltb}
use borrow.Author.Tests.{lt-ltb, le-ltb}
use Rattle.common.specs.Bytes.{low_bits}
use Rattle.bucket_piece.proofs.Runs.{every-fails, every-goes, every-done, every-all, group-fails, group-goes}
use Rattle.common.proofs.LowBits.{bits_small}
use Rattle.bucket_piece.proofs.Words.{index-cut}
use mathlib.Core.Path.{sym, ap, ◌∙◌}
use Prim.Native.Nat.{ℕ, ◌*◌}
use native.Mathlib.Omega.{arith}
use Rattle.bucket_piece.proofs.indexes.all_below.Goals as goal

pub returns-then-past_bits-e : goal.returns-then-past_bits-e
returns-then-past_bits-e c =
    sym
    (every-all (λ k. ltb (low_bits c.args.s.now c.args.at (k * c.args.w) c.args.w) c.args.e) c.args.m 0
    (λ i.
    lt-ltb (low_bits c.args.s.now c.args.at (i * c.args.w) c.args.w) c.args.e
    (omega (
      arith,
      bits_small c.args.s.now c.args.at (i * c.args.w) c.args.w,
      c.past_bits.ensures.0,
    ))))

pub returns-then-not-eight_below : goal.returns-then-not-eight_below
returns-then-not-eight_below c =
    sym
    (group-fails (λ k. ltb (low_bits c.args.s.now c.args.at (k * c.args.w) c.args.w) c.args.e)
    (λ k. ltb (c.low_word.result / 2 ^ (k * c.args.w) % 2 ^ c.args.w) c.args.e) c.args.m c.loop-g.g
    (omega (arith, c.whole_groups-groups.ensures.0))
    (λ t l.
    ap (λ (v : ℕ). ltb v c.args.e)
    (index-cut c.args.s.now (λ k. omega (arith, c.type_inv.s k)) c.args.at c.args.w
    c.loop-g.g t (omega arith) l ∙ ap (λ (x : ℕ). x / 2 ^ (t * c.args.w) % 2 ^ c.args.w)
    (sym c.low_word.ensures)))
    (sym c.eight_below.ensures ∙ c.if-not-eight_below.true))
    ∙ c.loop-g.invariant.1

pub loop-g-preserved : goal.loop-g-preserved
loop-g-preserved c = (
  omega arith,
  sym
      (group-goes (λ k. ltb (low_bits c.args.s.now c.args.at (k * c.args.w) c.args.w) c.args.e)
      (λ k. ltb (c.low_word.result / 2 ^ (k * c.args.w) % 2 ^ c.args.w) c.args.e) c.args.m c.loop-g.g
      (omega (arith, c.whole_groups-groups.ensures.0))
      (λ t l.
      ap (λ (v : ℕ). ltb v c.args.e)
      (index-cut c.args.s.now (λ k. omega (arith, c.type_inv.s k)) c.args.at
      c.args.w c.loop-g.g t (omega arith) l ∙ ap
      (λ (x : ℕ). x / 2 ^ (t * c.args.w) % 2 ^ c.args.w) (sym c.low_word.ensures)))
      (sym c.eight_below.ensures ∙ c.if-not-eight_below.false))
      ∙ c.loop-g.invariant.1,
)

pub returns-then-e-bits_at : goal.returns-then-e-bits_at
returns-then-e-bits_at c =
    sym
    (every-fails (λ k. ltb (low_bits c.args.s.now c.args.at (k * c.args.w) c.args.w) c.args.e) c.args.m
    c.loop-j.j c.loop-j-test.true
    (le-ltb _ _ (rw c.bits_at.ensures.0 at c.if-e-bits_at.true)))
    ∙ c.loop-j.invariant.1

pub loop-j-preserved : goal.loop-j-preserved
loop-j-preserved c = (
  omega arith,
  sym
      (every-goes (λ k. ltb (low_bits c.args.s.now c.args.at (k * c.args.w) c.args.w) c.args.e) c.args.m
      c.loop-j.j c.loop-j-test.true
      (lt-ltb _ _ (rw c.bits_at.ensures.0 at c.if-e-bits_at.false)))
      ∙ c.loop-j.invariant.1,
)

pub returns : goal.returns
returns c =
    sym
    (every-done (λ k. ltb (low_bits c.args.s.now c.args.at (k * c.args.w) c.args.w) c.args.e) c.args.m
    c.loop-j.j c.loop-j-test.false)
    ∙ c.loop-j.invariant.1
