-- Under 32 members the container is its members, else the block itself.
-- Assumes nothing.
use mathlib.Core.List.{List}
use mir.Val.{Fits}
use mir.Syntax.{w8}
use Rattle.bitmap_spec.specs.Output.{written}
use Rattle.blocks.proofs.Blocks.{block-sparse, block-dense, put-part}
use mathlib.Core.Path.{◌≡◌, sym, ap, ◌∙◌}
use Prim.Native.Nat.{ℕ}
use native.Mathlib.Omega.{arith}
use lib.ListN.{length, get_or}
use borrow.Author.Rules.{rules}
use Rattle.blocks.proofs.put_block.Goals as goal

pub put_members-requires : goal.put_members-requires
put_members-requires c =
    let e = block-sparse c.args.b c.args.d c.requires.0 c.if-d-lt32.true in
    omega (arith, ap length c.words.ensures, ap length e, c.requires.1)

pub returns-then-d-lt32 : goal.returns-then-d-lt32
returns-then-d-lt32 c =
    let e = c.words.ensures ∙ block-sparse c.args.b c.args.d c.requires.0 c.if-d-lt32.true in (
      c.put_members.ensures.0 ∙ ap length e,
      c.put_members.ensures.1 ∙ ap (λ (l : List ℕ). written c.args.out.now c.args.at l) e,
    )

pub slice_bounds-copy_from_slice-end : goal.slice_bounds-copy_from_slice-end
slice_bounds-copy_from_slice-end c =
    let n : length c.args.b ≡ 32 = search rules in
    let x : (k : ℕ) → Fits w8 (get_or c.args.b k 0) = λ k. search rules in
    let e = block-dense c.args.b c.args.d c.requires.0 c.if-d-lt32.false n (λ k. (x k).fits) in
    omega (arith, ap length e, c.requires.1, n)

pub returns : goal.returns
returns c =
    let n : length c.args.b ≡ 32 = search rules in
    let x : (k : ℕ) → Fits w8 (get_or c.args.b k 0) = λ k. search rules in
    let e = block-dense c.args.b c.args.d c.requires.0 c.if-d-lt32.false n (λ k. (x k).fits) in (
      sym n ∙ ap length e,
      put-part _ _ _ c.args.at _ (c.copy_from_slice.ensures.after ∙ e) (omega (arith, n, ap length e)),
    )
