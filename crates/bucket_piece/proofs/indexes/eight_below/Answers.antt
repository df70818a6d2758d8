-- The rest of the eight decides the whole; y is what is left of the word. Assumes nothing.
use Prim.Native.Nat.{◌/◌, ◌%◌, ◌^◌}
use lib.Dec.{ltb}
use borrow.Author.Tests.{lt-ltb, le-ltb}
use Rattle.bucket_piece.proofs.Runs.{every-fails, every-goes, every-done}
use Rattle.bucket_piece.proofs.Words.{masked, shifted}
use mathlib.Core.Path.{sym, ◌∙◌}
use Prim.Native.Nat.{◌*◌}
use Rattle.bucket_piece.proofs.indexes.eight_below.Goals as goal

pub returns-then-e-y : goal.returns-then-e-y
returns-then-e-y c =
    sym
    (every-fails (λ k. ltb (c.args.x / 2 ^ (k * c.args.w) % 2 ^ c.args.w) c.args.e) 8 c.loop.counter
    c.loop-test.true
    (le-ltb _ _
    (rw (masked c.loop.y c.past_bits-mask.result c.args.w c.past_bits-mask.ensures.0, c.loop.invariant.0) at
    c.if-e-y.true)))
    ∙ c.loop.invariant.1

pub loop-preserved : goal.loop-preserved
loop-preserved c = (
  rw c.loop.invariant.0 (shifted c.args.x c.loop.counter c.args.w),
  sym
      (every-goes (λ k. ltb (c.args.x / 2 ^ (k * c.args.w) % 2 ^ c.args.w) c.args.e) 8 c.loop.counter
      c.loop-test.true
      (lt-ltb _ _
      (rw (masked c.loop.y c.past_bits-mask.result c.args.w c.past_bits-mask.ensures.0, c.loop.invariant.0) at
      c.if-e-y.false)))
      ∙ c.loop.invariant.1,
)

pub returns : goal.returns
returns c =
    sym
    (every-done (λ k. ltb (c.args.x / 2 ^ (k * c.args.w) % 2 ^ c.args.w) c.args.e) 8 c.loop.counter c.loop-test.false)
    ∙ c.loop.invariant.1
