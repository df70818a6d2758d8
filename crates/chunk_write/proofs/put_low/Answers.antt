-- Packing takes the low bits of each value.
-- Assumes nothing.
use mathlib.Core.List.{List}
use Rattle.bitmap_spec.specs.Output.{written}
use Rattle.chunk_write.proofs.Laying.{low-packed}
use mathlib.Core.Path.{ap, ◌∙◌}
use Prim.Native.Nat.{ℕ, ◌-◌}
use Rattle.chunk_write.proofs.put_low.Goals as goal

pub returns : goal.returns
returns c = (
  c.put_packed.ensures.0,
  c.put_packed.ensures.1 ∙ ap (λ (l : List ℕ). written c.args.out.now c.args.at l)
      (low-packed c.args.vs.now c.args.b),
)
