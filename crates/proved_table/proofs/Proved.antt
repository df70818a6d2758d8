-- Every line of the table holds: both sides of each claim compute to the same.
-- Assumes nothing.
use mathlib.Core.Path.{refl}
use Rattle.bitmap_spec.proofs.Examples.{computed}
use Rattle.row_spec.proofs.Examples.{row_line}
use Rattle.bucket_spec.specs.Examples.{bucket-line}
use Rattle.proved_table.specs.Table.{All, lines}

pub proved-table : All lines
unfolding computed
proved-table = ((refl, refl), ((refl, refl), ((refl, refl), ((refl, refl), ((refl, refl), (refl, (row_line, (bucket-line, tt))))))))
