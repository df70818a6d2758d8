-- The invariant (Word): the members before place p are written and x packs the bits left; its highest set bit is the
-- next member.
-- Assumes nothing.
use mathlib.Core.List.{List}
use Rattle.bitmap_spec.specs.Bits.{packed}
use Rattle.blocks.specs.Block.{word_bit}
use Rattle.blocks.proofs.Members.{word-is, start, step, long, end}
use borrow.Author.Rules.{rules}
use mathlib.Core.Path.{◌≡◌, refl}
use Prim.Native.Nat.{ℕ, ◌*◌}
use native.Mathlib.Omega.{arith}
use lib.ListN.{get_or}
use mir.Val.{Fits}
use mir.Syntax.{w64}
use Rattle.blocks.proofs.put_word.Goals as goal

first : (ws : List ℕ) (q : ℕ) → ((k : ℕ) → Fits w64 (get_or ws k 0)) → get_or ws q 0 ≡ packed (word_bit ws) (q * 64) 64
first ws q x = word-is ws q (x q).fits

pub loop-x-init : goal.loop-x-init
loop-x-init c = λ b e r. (c.args.q * 64, 64, start b c.args.out.now c.args.at c.args.q r _ e)

pub overflow_cast-out : goal.overflow_cast-out
overflow_cast-out c =
    let g = c.loop-x.invariant c.args.ws (first c.args.ws c.args.q (λ k. search rules)) c.requires.1 in
    let s = step c.args.ws c.args.out.now c.args.at c.args.q c.requires.1 c.loop-x.out c.loop-x.x c.loop-x.n g.0 g.1
    g.2 c.loop-x-test.true in
    omega (arith, s.small)

pub overflow_add-out : goal.overflow_add-out
overflow_add-out c =
    let g = c.loop-x.invariant c.args.ws (first c.args.ws c.args.q (λ k. search rules)) c.requires.1 in
    let s = step c.args.ws c.args.out.now c.args.at c.args.q c.requires.1 c.loop-x.out c.loop-x.x c.loop-x.n g.0 g.1
    g.2 c.loop-x-test.true in
    omega (arith, s.small)

pub overflow_cast-out-in-loop-x : goal.overflow_cast-out-in-loop-x
overflow_cast-out-in-loop-x c =
    let g = c.loop-x.invariant c.args.ws (first c.args.ws c.args.q (λ k. search rules)) c.requires.1 in
    let s = step c.args.ws c.args.out.now c.args.at c.args.q c.requires.1 c.loop-x.out c.loop-x.x c.loop-x.n g.0 g.1
    g.2 c.loop-x-test.true in
    omega (arith, s.small, c.requires.0)

pub overflow_add-out-in-loop-x : goal.overflow_add-out-in-loop-x
overflow_add-out-in-loop-x c =
    let g = c.loop-x.invariant c.args.ws (first c.args.ws c.args.q (λ k. search rules)) c.requires.1 in
    let s = step c.args.ws c.args.out.now c.args.at c.args.q c.requires.1 c.loop-x.out c.loop-x.x c.loop-x.n g.0 g.1
    g.2 c.loop-x-test.true in
    omega (
      arith,
      s.fits,
      long c.args.ws c.args.out.now c.args.at c.args.q c.requires.1 c.loop-x.out c.loop-x.x c.loop-x.n g.0 g.1
          g.2,
    )

pub bounds-out-at : goal.bounds-out-at
bounds-out-at c =
    let g = c.loop-x.invariant c.args.ws (first c.args.ws c.args.q (λ k. search rules)) c.requires.1 in
    let s = step c.args.ws c.args.out.now c.args.at c.args.q c.requires.1 c.loop-x.out c.loop-x.x c.loop-x.n g.0 g.1
    g.2 c.loop-x-test.true in
    s.fits

pub overflow_sub-x : goal.overflow_sub-x
overflow_sub-x c =
    let g = c.loop-x.invariant c.args.ws (first c.args.ws c.args.q (λ k. search rules)) c.requires.1 in
    let s = step c.args.ws c.args.out.now c.args.at c.args.q c.requires.1 c.loop-x.out c.loop-x.x c.loop-x.n g.0 g.1
    g.2 c.loop-x-test.true in
    omega (arith, s.small)

pub overflow_sub-x-in-loop-x : goal.overflow_sub-x-in-loop-x
overflow_sub-x-in-loop-x c =
    let g = c.loop-x.invariant c.args.ws (first c.args.ws c.args.q (λ k. search rules)) c.requires.1 in
    let s = step c.args.ws c.args.out.now c.args.at c.args.q c.requires.1 c.loop-x.out c.loop-x.x c.loop-x.n g.0 g.1
    g.2 c.loop-x-test.true in
    s.le

pub overflow_add-n : goal.overflow_add-n
overflow_add-n c =
    let g = c.loop-x.invariant c.args.ws (first c.args.ws c.args.q (λ k. search rules)) c.requires.1 in
    let s = step c.args.ws c.args.out.now c.args.at c.args.q c.requires.1 c.loop-x.out c.loop-x.x c.loop-x.n g.0 g.1
    g.2 c.loop-x-test.true in
    omega (
      arith,
      s.fits,
      long c.args.ws c.args.out.now c.args.at c.args.q c.requires.1 c.loop-x.out c.loop-x.x c.loop-x.n g.0 g.1
          g.2,
    )

pub loop-x-smaller : goal.loop-x-smaller
loop-x-smaller c =
    let g = c.loop-x.invariant c.args.ws (first c.args.ws c.args.q (λ k. search rules)) c.requires.1 in
    let s = step c.args.ws c.args.out.now c.args.at c.args.q c.requires.1 c.loop-x.out c.loop-x.x c.loop-x.n g.0 g.1
    g.2 c.loop-x-test.true in
    omega (arith, s.le, s.pos, c.loop-x-test.true)

pub loop-x-preserved : goal.loop-x-preserved
loop-x-preserved c =
    λ b e r.
    let g = c.loop-x.invariant b e r in let s = step b c.args.out.now
    c.args.at c.args.q r c.loop-x.out c.loop-x.x
    c.loop-x.n g.0 g.1 g.2 c.loop-x-test.true in s.again _ refl

pub shape_of-out : goal.shape_of-out
shape_of-out c =
    let g = c.loop-x.invariant c.args.ws (first c.args.ws c.args.q (λ k. search rules)) c.requires.1 in
    long c.args.ws c.args.out.now c.args.at c.args.q c.requires.1 c.loop-x.out c.loop-x.x c.loop-x.n g.0 g.1 g.2

pub returns : goal.returns
returns c =
    let g = c.loop-x.invariant c.args.ws (first c.args.ws c.args.q (λ k. search rules)) c.requires.1 in
    end c.args.ws c.args.out.now c.args.at c.args.q c.requires.1 c.loop-x.out c.loop-x.x c.loop-x.n g.0 g.1 g.2
    c.loop-x-test.false
