-- The widths of a chunk's values.
use Rattle.std.specs.Prelude.{ℕ, ◌+◌, ◌-◌, ◌≤◌, ◌≡◌, List, map, length, eqb}
use Rattle.common.specs.Outcome.{pick}
use Rattle.bitmap_spec.specs.Form.{width, wider, largest, cheapest}
use Rattle.chunk_write.specs.declared.Widths.{Widths}

-- those that the values vs are written with, and how many of them are exceptions
pub record Chosen (vs : List ℕ) (r : Widths) : Type 0 where
  pub first : r.first ≡ cheapest vs (largest (map width vs))
  pub exceptions : r.exceptions ≡ length (wider r.first vs)
  pub few : r.exceptions ≤ 255
  pub second : r.second ≡ pick (eqb r.exceptions 0) 0 (largest (map width vs) - r.first)
  pub within : r.first + r.second ≤ largest (map width vs)
  pub narrow : largest (map width vs) ≤ 8
