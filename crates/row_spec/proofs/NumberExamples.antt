-- Numbers in groups of seven bits, shortest and padded, cut short and ill-formed; 02's text of one byte after a padded
-- length.
use Rattle.std.specs.Prelude.{ℕ, Ok, Err, ◌≡◌, refl, true, false, List, [], ◌∷◌}
use Rattle.common.specs.Outcome.{then, found, need}
use Rattle.common.specs.Bytes.{ceil8, little_at, low_bit, low_spare_zero}
use Rattle.row_spec.specs.Varint.{varint, varint_at, groups, last_group, padded, least_from, groups_of, shortest}
use Rattle.row_spec.specs.Schema.{schema, columns_from, column_at, type_at, types, numbered, decimal}
use Rattle.row_spec.specs.Value.{value_at, stored_at, sized_of, room}
use Rattle.row_spec.specs.Block.{block, counted, rows, row, fields, field_at}
use Rattle.row_spec.specs.declared.Field.TheVariants.{Place}
use Rattle.row_spec.specs.declared.ReadFault.TheVariants.{CutShort, IllFormed}

-- one byte is shortest, `00` too; `80 00` and `80 80 80 80 00` are 0, padded
pub zeros : (varint_at (0 ∷ []) 0 ≡ Ok (varint 0 1 true))
    × (varint_at (128 ∷ 0 ∷ []) 0 ≡ Ok (varint 0 2 false))
    × (varint_at (128 ∷ 128 ∷ 128 ∷ 128 ∷ 0 ∷ []) 0 ≡ Ok (varint 0 5 false))
unfolding varint_at groups last_group
zeros = (refl, refl, refl)

-- the largest number; a fifth byte over 0F is ill-formed
pub largest : (varint_at (255 ∷ 255 ∷ 255 ∷ 255 ∷ 15 ∷ []) 0 ≡ Ok (varint 4294967295 5 true))
    × (varint_at (128 ∷ 128 ∷ 128 ∷ 128 ∷ 16 ∷ []) 0 ≡ Err IllFormed)
    × (varint_at (255 ∷ 255 ∷ 255 ∷ 255 ∷ 127 ∷ []) 0 ≡ Err IllFormed)
unfolding varint_at groups last_group
largest = (refl, refl, refl)

-- five high bits are ill-formed, also where the bytes end; fewer, and the end, are cut short
pub high_bits : (varint_at (128 ∷ 128 ∷ 128 ∷ 128 ∷ 128 ∷ []) 0 ≡ Err IllFormed)
    × (varint_at (128 ∷ 128 ∷ 128 ∷ 128 ∷ 128 ∷ 1 ∷ []) 0 ≡ Err IllFormed)
    × (varint_at (128 ∷ 128 ∷ 128 ∷ 128 ∷ []) 0 ≡ Err CutShort)
    × (varint_at [] 0 ≡ Err CutShort)
unfolding varint_at groups last_group
high_bits = (refl, refl, refl, refl)

-- the shortest forms at the edges of one and five groups; 1 in five groups
pub forms : (shortest 0 ≡ 0 ∷ [])
    × (shortest 127 ≡ 127 ∷ [])
    × (shortest 128 ≡ 128 ∷ 1 ∷ [])
    × (shortest 4294967295 ≡ 255 ∷ 255 ∷ 255 ∷ 255 ∷ 15 ∷ [])
    × (padded 5 1 ≡ 129 ∷ 128 ∷ 128 ∷ 128 ∷ 0 ∷ [])
unfolding shortest padded groups_of least_from
forms = (refl, refl, refl, refl, refl)

-- schema `01 0A 00`, and the same with its count in two bytes
abbrev text_schema : List ℕ
text_schema = 1 ∷ 10 ∷ 0 ∷ []

abbrev padded_schema : List ℕ
padded_schema = 129 ∷ 0 ∷ 10 ∷ 0 ∷ []

-- block `00 81 80 00 41 00 00 00 00 01 00 00 00`: a length in three bytes, then one byte of text, at 4
abbrev padded_block : List ℕ
padded_block = 0 ∷ 129 ∷ 128 ∷ 0 ∷ 65 ∷ 0 ∷ 0 ∷ 0 ∷ 0 ∷ 1 ∷ 0 ∷ 0 ∷ 0 ∷ []

pub padded-line : (then (schema text_schema) (λ cols. block cols padded_block) ≡ found ((Place 4 1 ∷ []) ∷ []))
    × (schema padded_schema ≡ schema text_schema)
unfolding need ceil8 little_at low_bit low_spare_zero varint_at groups last_group schema columns_from column_at type_at
    types numbered
    decimal value_at stored_at sized_of room block counted rows row fields field_at
padded-line = (refl, refl)
