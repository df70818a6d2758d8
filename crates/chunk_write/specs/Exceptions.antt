-- The bytes of a chunk's exceptions at offs: the offsets, then the parts above b, packed b2 bits wide.
use Rattle.std.specs.Prelude.{ℕ, ◌/◌, ◌^◌, List, ◌++◌, length, get_or}
use Rattle.bitmap_spec.specs.Bits.{pack_values}

unfoldable pub exceptions_of : List ℕ → ℕ → ℕ → List ℕ → List ℕ
exceptions_of vs b b2 offs = offs ++ pack_values (λ j. get_or vs (get_or offs j 0) 0 / 2 ^ b) b2 (length offs)
