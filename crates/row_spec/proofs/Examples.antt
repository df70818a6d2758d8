-- 01, "P row schema `01 03 00`, block `00 05 00 00 00 00 00 00 00 01 00 00 00`: one row, 5."
use Rattle.std.specs.Prelude.{ℕ, ◌≡◌, refl, pos, negsuc}
use mathlib.Core.List.{List, [], ◌∷◌, flatten}
use Rattle.common.specs.Outcome.{then, found, need, Outcome}
use Rattle.common.specs.Bytes.{ceil8, little_at, signed_of, low_bit, low_spare_zero}
use Rattle.row_spec.specs.Varint.{varint_at, groups, last_group}
use Rattle.row_spec.specs.Schema.{schema, columns_from, column_at, type_at, types, numbered, decimal}
use Rattle.row_spec.specs.Value.{value_at, stored_at, whole_at, word_at, room}
use Rattle.row_spec.specs.Block.{block, counted, rows, row, fields, field_at}
use Rattle.row_spec.specs.Page.{unsigned, listed, Page, rows_from, page_of, block_page}
use Rattle.row_spec.specs.declared.Field.{Field}
use Rattle.row_spec.specs.declared.Field.TheVariants.{Whole}

abbrev pub row_schema : List ℕ
row_schema = 1 ∷ 3 ∷ 0 ∷ []

abbrev pub row_block : List ℕ
row_block = 0 ∷ 5 ∷ 0 ∷ 0 ∷ 0 ∷ 0 ∷ 0 ∷ 0 ∷ 0 ∷ 1 ∷ 0 ∷ 0 ∷ 0 ∷ []

pub row_line : then (schema row_schema) (λ cols. block cols row_block) ≡ found ((Whole (pos 5) ∷ []) ∷ [])
unfolding need ceil8 little_at signed_of low_bit low_spare_zero varint_at groups last_group schema columns_from
    column_at type_at types numbered decimal value_at stored_at whole_at word_at room block counted rows row fields
    field_at
row_line = refl

-- a page of its one row, or of none
abbrev pub row_page : List Field → ℕ → Outcome Page
row_page fs given = found (record { fields = fs; given = given; rows = 1 })

-- from row 0 on with room for three numbers, with room for two, and from row 1 on
abbrev pub row_pages : List (Outcome Page)
row_pages = block_page row_schema row_block 0 3 ∷ block_page row_schema row_block 0 2 ∷ block_page row_schema row_block
    1 3 ∷ []

pub page-line : row_pages ≡ row_page (Whole (pos 5) ∷ []) 1 ∷ row_page [] 0 ∷ row_page [] 0 ∷ []
unfolding need ceil8 little_at signed_of low_bit low_spare_zero varint_at groups last_group schema columns_from
    column_at
    type_at types numbered decimal value_at stored_at whole_at word_at room block counted rows row fields field_at
    block_page
    page_of rows_from flatten
page-line = refl

-- -1 in three numbers
pub listed-line : listed (Whole (negsuc 0)) ≡ 2 ∷ 18446744073709551615 ∷ 0 ∷ []
unfolding listed unsigned
listed-line = refl
