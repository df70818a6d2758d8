-- A chunk ends after 256 descriptors or at the end.
-- Assumes nothing.
use mathlib.Core.Logic.{inl, inr}
use mathlib.Core.Path.{refl}
use native.Mathlib.Omega.{arith}
use Rattle.chunks_write.proofs.chunk_end.Goals as goal

pub returns-then-n-i-lt256 : goal.returns-then-n-i-lt256
returns-then-n-i-lt256 c = (omega arith, omega arith, omega arith, inr refl)

pub returns : goal.returns
returns c = (omega arith, omega arith, omega arith, inl refl)
