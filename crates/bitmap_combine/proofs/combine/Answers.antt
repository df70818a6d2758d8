-- Where both headers announce at most 256 containers, 256 descriptors are enough for each.
-- Assumes nothing.
use native.Mathlib.Omega.{arith}
use Rattle.bitmap_combine.proofs.combine.Goals as goal

pub combine_by_arrays-requires : goal.combine_by_arrays-requires
combine_by_arrays-requires c = (
  λ long few. c.is_small.ensures c.if-is_small.true long,
  λ long few. c.is_small-then-is_small.ensures c.if-is_small-2.true long,
  omega arith,
)
