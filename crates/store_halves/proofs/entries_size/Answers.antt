-- The owner's numbers are those of a share of 32 slots.
-- Assumes nothing.
use mathlib.Core.List.{List}
use Rattle.bitmap_spec.proofs.Tally.{tally}
use Rattle.store_save.specs.Size.{entry_size}
use Rattle.store_halves.proofs.Parts.{dir-long}
use mathlib.Core.Path.{ap, ◌∙◌}
use Prim.Native.Nat.{ℕ}
use native.Mathlib.Omega.{arith}
use lib.ListN.{length}
use borrow.Author.Rules.{rules}
use Rattle.store_halves.proofs.entries_size.Goals as goal

pub entries_size-requires : goal.entries_size-requires
entries_size-requires c = (
  omega arith,
  ap length c.numbers_of.ensures ∙ dir-long c.args.dir.now c.args.o c.requires.0 c.requires.1,
  rw c.numbers_of.ensures c.requires.2,
)

pub returns : goal.returns
returns c = (
  c.entries_size.ensures.0 ∙ ap (λ (x : List ℕ). tally (entry_size x) 0 32) c.numbers_of.ensures,
  c.entries_size.ensures.1,
)
