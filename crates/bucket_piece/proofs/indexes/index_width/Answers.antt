-- Under 2 entries need no bit; over 256 the count of digits is 8. Assumes nothing.
use Rattle.bucket_spec.specs.Piece.{index_width}
use Rattle.bucket_piece.proofs.Runs.{width_few, width-many}
use mathlib.Core.Path.{refl, sym}
use native.Mathlib.Omega.{arith}
use Rattle.bucket_piece.proofs.indexes.index_width.Goals as goal

pub returns-then-e-lt2 : goal.returns-then-e-lt2
returns-then-e-lt2 c = (sym (width_few _ c.if-e-lt2.true), omega arith)

pub returns-then-e-gt256 : goal.returns-then-e-gt256
returns-then-e-gt256 c = (sym (width-many _ c.if-e-gt256.true), omega arith)

pub returns : goal.returns
unfolding index_width
returns c = (refl, omega arith)
