-- The invariants: the bytes passed are joined in the array and their bits counted; the bytes passed are written.
-- Assumes nothing.
use borrow.Author.Count.{below_none, below_more}
use borrow.Author.Rules.{rules}
use mathlib.Core.Path.{◌≡◌, refl, sym, ap, ◌∙◌}
use mathlib.Core.List.{List}
use Prim.Native.Nat.{ℕ, ◌+◌, ◌<◌}
use native.Mathlib.Omega.{arith}
use mir.Syntax.{w8}
use mir.Val.{Fits}
use lib.Count.{ones-le}
use lib.ListN.{get_or, length-set}
use lib.Seq.{take_all}
use Rattle.bitmap_spec.specs.Output.{written}
use Rattle.bitmap_spec.proofs.Tally.{tally}
use Rattle.bitmap_laws.proofs.Output.{written_none}
use Rattle.blocks.specs.Block.{mix, joined_bytes}
use Rattle.blocks.proofs.Blocks.{copy-turn}
use Rattle.blocks.proofs.Digits.{mix-lt, joined_at, joined_is, ones-turn, set_more}
use Rattle.blocks.proofs.join16.Goals as goal

-- the byte made is a joined one
here : (c : goal.After-shared_slice_known-in-loop-i-1)
    → mix c.args.p c.args.q
    c.args.w (get_or c.args.a.now
    (c.args.at + c.loop-i.i) 0) (get_or
    c.args.b.now
    (c.args.bt + c.loop-i.i) 0)
    ≡ get_or (joined_bytes c.args.p c.args.q
    c.args.w c.args.a.now
    c.args.at c.args.b.now
    c.args.bt 16) c.loop-i.i 0
here c =
    sym
    (joined_at c.args.p c.args.q c.args.w c.args.a.now c.args.at c.args.b.now c.args.bt 16 c.loop-i.i
    c.loop-i-test.true)

small : (c : goal.After-shared_slice_known-in-loop-i-1)
    → mix c.args.p c.args.q
    c.args.w (get_or c.args.a.now
    (c.args.at + c.loop-i.i) 0) (get_or
    c.args.b.now
    (c.args.bt + c.loop-i.i) 0)
    < 256
small c =
    let p : Fits w8 c.args.p = search rules in
    let q : Fits w8 c.args.q = search rules in
    let w : Fits w8 c.args.w = search rules in
    mix-lt c.args.p c.args.q c.args.w _ _ p.fits q.fits w.fits
    (omega (arith, c.type_inv.a (c.args.at + c.loop-i.i)))
    (omega (arith, c.type_inv.b (c.args.bt + c.loop-i.i)))

pub loop-i-init : goal.loop-i-init
unfolding tally
loop-i-init c = (omega arith, omega arith, refl, refl, below_none _, below_none _)

pub bounds-v-i : goal.bounds-v-i
bounds-v-i c =
    omega (arith, c.loop-i-test.true, c.loop-i.invariant.2)

pub overflow_cast-ones : goal.overflow_cast-ones
unfolding mix
overflow_cast-ones c = omega (arith, ones-le 8 _ (small c))

pub overflow_add-ones : goal.overflow_add-ones
unfolding mix
overflow_add-ones c =
    omega (arith, ones-le 8 _ (small c), c.loop-i.invariant.1, c.loop-i-test.true)

pub loop-i-preserved : goal.loop-i-preserved
unfolding mix
loop-i-preserved c = (
  omega (arith, c.loop-i-test.true),
  omega (arith, ones-le 8 _ (small c), c.loop-i.invariant.1),
  simp length-set c.loop-i.invariant.2,
  ones-turn c.args.p c.args.q c.args.w c.args.a.now c.args.at c.args.b.now c.args.bt 16 c.loop-i.i _ c.loop-i.ones
      (here c) (small c)
      c.loop-i.invariant.3,
  set_more (λ k. get_or (joined_bytes c.args.p c.args.q c.args.w c.args.a.now c.args.at c.args.b.now c.args.bt 16) k 0)
      c.loop-i.v
      c.loop-i.i _ (omega (arith, c.loop-i.invariant.2, c.loop-i-test.true)) (here c) c.loop-i.invariant.4,
  below_more _ _ c.loop-i.invariant.5 (rw (← here c) (small c)),
)

pub loop-j-init : goal.loop-j-init
loop-j-init c = (omega arith, refl, written_none c.args.out.now c.args.to)

pub bounds-v-j : goal.bounds-v-j
bounds-v-j c =
    omega (arith, c.loop-i.invariant.2, c.loop-j-test.true)

pub bounds-out-to : goal.bounds-out-to
bounds-out-to c =
    omega (arith, c.loop-j-test.true, c.requires.2, c.loop-j.invariant.1)

pub loop-j-preserved : goal.loop-j-preserved
loop-j-preserved c = (
  omega arith,
  simp length-set c.loop-j.invariant.1,
  copy-turn c.loop-i.v c.args.out.now c.loop-j.out c.args.to c.loop-j.j _
      (omega (arith, c.loop-i.invariant.2, c.loop-j-test.true)) (omega (arith, c.loop-i.invariant.2, c.requires.2)) refl
      c.loop-j.invariant.2,
)

pub shape_of-out : goal.shape_of-out
shape_of-out c = c.loop-j.invariant.1

pub returns : goal.returns
returns c =
    let e : c.loop-i.i ≡ 16 = omega (arith, c.loop-i-test.false, c.loop-i.invariant.0) in (
      rw e at c.loop-i.invariant.3,
      omega (arith, c.loop-i.invariant.1),
      c.loop-j.invariant.2 ∙ ap (λ (z : List ℕ). written c.args.out.now c.args.to z)
          (take_all c.loop-j.j c.loop-i.v (omega (arith, c.loop-i.invariant.2, c.loop-j-test.false))
          ∙ joined_is c.args.p c.args.q c.args.w c.args.a.now c.args.at c.args.b.now c.args.bt c.loop-i.v
          c.loop-i.invariant.2
          (λ k h. c.loop-i.invariant.4 k (omega arith))),
      λ k h. c.loop-i.invariant.5 k (omega arith),
    )
