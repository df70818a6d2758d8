-- How many bytes a saved entry takes.
use Rattle.std.specs.Prelude.{ℕ, ◌+◌, List, length}
use Rattle.row_spec.specs.Varint.{shortest}
use Rattle.store_spec.specs.Store.{length_at}

unfoldable pub entry_size : List ℕ → ℕ → ℕ
entry_size dir k = length (shortest (length_at dir k)) + length_at dir k
