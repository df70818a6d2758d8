-- The words are loaded before the members are written over the block.
-- Assumes nothing.
use mathlib.Core.List.{List}
use mathlib.Core.Path.{ap, ◌∙◌}
use Prim.Native.Nat.{ℕ}
use native.Mathlib.Omega.{arith}
use lib.ListN.{length}
use Rattle.bitmap_spec.specs.Output.{written}
use Rattle.blocks.proofs.spread.Goals as goal

pub words-ws-requires : goal.words-ws-requires
words-ws-requires c = c.requires.0

pub put_members-requires : goal.put_members-requires
put_members-requires c =
    omega (arith, ap length c.words-ws.ensures, c.requires.0, c.requires.1)

pub returns : goal.returns
returns c =
    (c.put_members.ensures.0 ∙ ap length c.words-ws.ensures, c.put_members.ensures.1 ∙ ap (λ (l : List ℕ). written c.args.out.now c.args.at l) c.words-ws.ensures)
