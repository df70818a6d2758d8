-- The head, and behind it the containers' bytes as they are.
-- Assumes nothing.
use mathlib.Core.Path.{ap, ◌∙◌}
use Prim.Native.Nat.{◌-◌}
use native.Mathlib.Omega.{arith}
use lib.ListN.{length, drop, length-drop}
use lib.Seq.{take_all}
use Rattle.bitmap_spec.specs.Output.{written}
use Rattle.bitmap_rewrite.proofs.Laying.{length-laid, both-laid}
use Rattle.bitmap_rewrite.proofs.put_laid.Goals as goal

pub put_head-to-requires : goal.put_head-to-requires
put_head-to-requires c = (
  c.requires.1,
  c.requires.2,
  omega (arith, length-laid c.args.s.now c.args.start c.args.ds.now c.args.card c.requires.0, c.requires.3),
)

pub copy_part-requires : goal.copy_part-requires
copy_part-requires c =
    let long = length-laid c.args.s.now c.args.start c.args.ds.now c.args.card c.requires.0 in
    (omega (arith, c.requires.0), omega (arith, c.requires.0, c.put_head-to.auto.out, c.put_head-to.ensures.0, long, c.requires.3))

pub returns : goal.returns
returns c =
    let rest = take_all (length c.args.s.now - c.args.start) (drop c.args.start c.args.s.now)
    (omega (arith, length-drop c.args.start c.args.s.now)) in
    both-laid c.args.s.now c.args.start c.args.ds.now _ _ _ c.args.card c.put_head-to.result c.requires.0 c.requires.3
    c.put_head-to.ensures.0 c.put_head-to.ensures.1
    (c.copy_part.ensures ∙ ap (written _ c.put_head-to.result) rest)
