-- The owner's numbers and half are a share of 32 slots.
-- Assumes nothing.
use mathlib.Core.Path.{ap, ap₂, ◌∙◌}
use mathlib.Core.List.{List}
use Rattle.bitmap_spec.specs.Output.{written}
use Rattle.store_spec.specs.Store.{entries_of}
use Rattle.store_spec.specs.Saved.{saved}
use Rattle.store_halves.proofs.Parts.{dir-long}
use Prim.Native.Nat.{ℕ}
use native.Mathlib.Omega.{arith}
use lib.ListN.{length}
use borrow.Author.Rules.{rules}
use Rattle.store_halves.proofs.put_entries.Goals as goal

pub put_entries-requires : goal.put_entries-requires
put_entries-requires c = (
  omega arith,
  ap length c.numbers_of.ensures ∙ dir-long c.args.dir.now c.args.o c.requires.0 c.requires.1,
  rw (c.numbers_of.ensures, c.bytes_of.ensures) c.requires.2,
  rw (c.numbers_of.ensures, c.bytes_of.ensures) c.requires.3,
)

pub returns : goal.returns
returns c = (
  c.put_entries.ensures.0 ∙ ap₂ (λ (x y : List ℕ). length (saved (entries_of 32 x y))) c.numbers_of.ensures
      c.bytes_of.ensures,
  c.put_entries.ensures.1 ∙ ap₂ (λ (x y : List ℕ). written c.args.out.now c.args.at (saved (entries_of 32 x y)))
      c.numbers_of.ensures c.bytes_of.ensures,
)
