-- What a walk over the chunks is given.
use Rattle.std.specs.Prelude.{ℕ, ◌/◌, ◌%◌, ◌≡◌, List, [], length}
use Rattle.common.specs.Outcome.{found}
use Rattle.bitmap_spec.specs.Judge.{chunks}

-- the chunks of s from byte 6 on are those of the descriptors ds, and end at start
pub record Reads (s ds : List ℕ) : Type 0 where
  pub start : ℕ
  pub says : chunks s 6 [] (length ds / 256) (length ds % 256) ≡ found (record { descs = ds; next = start })
