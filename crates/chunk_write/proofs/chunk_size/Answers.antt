-- The descriptors less the least give the length of the written chunk.
-- Assumes nothing.
use mathlib.Core.Path.{refl, ◌∙◌}
use mathlib.Core.List.{map}
use Prim.Native.Nat.{◌-◌}
use native.Mathlib.Omega.{arith}
use Rattle.bitmap_laws.proofs.Length.{chunk-size}
use Rattle.chunk_write.proofs.Laying.{whole-size}
use Rattle.chunk_write.proofs.chunk_size.Goals as goal

pub values_size-requires : goal.values_size-requires
values_size-requires c = (c.requires.1, c.least_of-m.ensures)

pub returns : goal.returns
returns c =
    let size = c.values_size.ensures ∙ whole-size c.args.ds.now (map (λ d. d - c.least_of-m.result) c.args.ds.now) c.least_of-m.result c.least_of-m.ensures refl in
    (size, omega (arith, size, chunk-size c.args.ds.now c.requires.2 c.requires.1))
