-- 01, "P bucket of TINYINT NOT NULL, N 3, `01 00 02 00 02 01 02 02`: 1, 2, 1."
use Rattle.std.specs.Prelude.{ℕ, ◌≡◌, refl, pos}
use mathlib.Core.List.{List, [], ◌∷◌, flatten}
use Rattle.std.specs.Int.Count.{count_leading_zeros}
use Rattle.common.specs.Outcome.{Outcome, refused, found, need}
use Rattle.common.specs.Lists.{from, every}
use Rattle.common.specs.Bytes.{ceil8, big_at, signed_of, low_bit, low_bits, low_count, low_spare_zero}
use Rattle.row_spec.specs.Varint.{varint_at, groups, last_group}
use Rattle.row_spec.specs.Schema.{schema, columns_from, column_at, type_at, types, numbered, decimal}
use Rattle.row_spec.specs.Value.{value_at, stored_at, whole_at, word_at, room}
use Rattle.row_spec.specs.Page.{Page, rows_from, page_of}
use Rattle.bucket_spec.specs.Piece.{values, here_of, nth, index_width, table_of, const_piece, table_piece, nulls_piece, live, indexes, data_piece, piece, entry_of, value_of}
use Rattle.bucket_spec.specs.Bucket.{along, col_of, tag_of, mapped, piece_of, parts, tag_allowed, body, is_null, answer, head_number, tags_at, bucket, bucket_field}
use Rattle.bucket_spec.specs.Page.{answers, column, bucket_page}
use Rattle.row_spec.specs.declared.Field.{Field}
use Rattle.row_spec.specs.declared.Field.TheVariants.{Whole}

abbrev pub bucket_schema : List ℕ
bucket_schema = 1 ∷ 1 ∷ 0 ∷ []

abbrev pub bucket_bytes : List ℕ
bucket_bytes = 1 ∷ 0 ∷ 2 ∷ 0 ∷ 2 ∷ 1 ∷ 2 ∷ 2 ∷ []

-- the fields of rows 0, 1 and 2
abbrev pub bucket_rows : List (Outcome Field)
bucket_rows = bucket_field bucket_schema 3 bucket_bytes 0 0 ∷ bucket_field bucket_schema 3 bucket_bytes 1 0 ∷ bucket_field bucket_schema 3 bucket_bytes 2 0 ∷ []

pub bucket-line : bucket_rows ≡ found (Whole (pos 1)) ∷ found (Whole (pos 2)) ∷ found (Whole (pos 1)) ∷ []
unfolding need from every ceil8 big_at signed_of low_bit low_bits low_count low_spare_zero varint_at groups last_group schema columns_from column_at type_at types numbered decimal value_at stored_at whole_at word_at room values here_of nth index_width table_of const_piece table_piece nulls_piece live indexes data_piece piece entry_of value_of along col_of tag_of mapped piece_of parts tag_allowed body is_null answer head_number tags_at bucket bucket_field count_leading_zeros
bucket-line = refl

-- pages with room for six numbers: of column 0 from row 1 on, and of column 1, which is not there
abbrev pub column_pages : List (Outcome Page)
column_pages = bucket_page bucket_schema 3 bucket_bytes 0 1 6 ∷ bucket_page bucket_schema 3 bucket_bytes 1 0 6 ∷ []

pub page-line : column_pages
    ≡ found (record { fields = Whole (pos 2) ∷ Whole (pos 1) ∷ []; given = 2; rows = 3 }) ∷ refused 25 ∷ []
unfolding need from every ceil8 big_at signed_of low_bit low_bits low_count low_spare_zero varint_at groups last_group schema
    columns_from column_at type_at types numbered decimal value_at stored_at whole_at word_at room values here_of nth
    index_width table_of const_piece table_piece nulls_piece live indexes data_piece piece entry_of value_of along col_of tag_of
    mapped piece_of parts tag_allowed body is_null answer head_number tags_at bucket count_leading_zeros answers column bucket_page
    page_of rows_from flatten
page-line = refl
