-- The owner's numbers and half are a share of 32 slots.
-- Assumes nothing.
use mathlib.Core.Path.{ap, ap₂, ◌∙◌}
use mathlib.Core.List.{List}
use Rattle.store_spec.specs.Store.{sound}
use Rattle.store_halves.proofs.Parts.{dir-long}
use Prim.Native.Nat.{ℕ}
use native.Mathlib.Omega.{arith}
use lib.ListN.{length}
use borrow.Author.Rules.{rules}
use Rattle.store_halves.proofs.is_sound.Goals as goal

pub is_sound-requires : goal.is_sound-requires
is_sound-requires c =
    (omega arith, ap length c.numbers_of.ensures ∙ dir-long c.args.dir.now c.args.o c.requires.0 c.requires.1)

pub returns : goal.returns
returns c =
    c.is_sound.ensures ∙ ap₂ (λ (x y : List ℕ). sound 32 x y) c.numbers_of.ensures
    c.bytes_of.ensures
