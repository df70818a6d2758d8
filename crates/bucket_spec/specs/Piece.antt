-- The pieces that one column has in a bucket: its CONST value, its DICT table, its null bitmap, its data. Each yields the place after it.
use Rattle.std.specs.Prelude.{ℕ, Result, zero, suc, ◌+◌, ◌-◌, ◌*◌, Bool, true, List, length, leb, ltb, eqb}
use Rattle.std.specs.Int.Count.{count_leading_zeros}
use Rattle.common.specs.Outcome.{pick, both, either, Outcome, refused, found, then, need}
use Rattle.common.specs.Lists.{from, every}
use Rattle.common.specs.Bytes.{ceil8, low_bits, low_count, low_spare_zero}
use Rattle.row_spec.specs.Varint.{varint_at, on_varint}
use Rattle.row_spec.specs.Value.{value_at, on_value}
use Rattle.row_spec.specs.declared.Varint.{Varint}
use Rattle.row_spec.specs.declared.ReadFault.{ReadFault}
use Rattle.row_spec.specs.declared.ColumnType.{ColumnType}
use Rattle.row_spec.specs.declared.Column.{Column}
use Rattle.row_spec.specs.declared.Field.{Field}

-- n values from at on: "value by value, 31 before 32 for each value"
unfoldable pub values : List ℕ → ColumnType → ℕ → ℕ → Outcome ℕ
values s t zero at = found at
values s t (suc n) at = on_value (value_at true s at t) (refused 31) (refused 32) (λ f next. values s t n next)

-- the value at p
unfoldable pub here_of : List ℕ → ColumnType → ℕ → Outcome Field
here_of s t p = on_value (value_at true s p t) (refused 31) (refused 32) (λ f next. found f)

-- value j of those from at on
unfoldable pub nth : List ℕ → ColumnType → ℕ → ℕ → Outcome Field
nth s t at j = then (values s t j at) (here_of s t)

-- "ceil(log2(entries)) bits wide": the binary digits of the last index
unfoldable pub index_width : ℕ → ℕ
index_width e = 8 - count_leading_zeros 8 (e - 1)

-- a table's number of entries, and where they start
abbrev pub entries_of : Result Varint ReadFault → ℕ
entries_of r = on_varint r 0 0 (λ e next. e)

abbrev pub after_of : Result Varint ReadFault → ℕ
after_of r = on_varint r 0 0 (λ e next. next)

-- "A table's number of entries: 31, 32, 33": "number of entries 2 to 255, then entries"
unfoldable pub table_of : List ℕ → ColumnType → Result Varint ReadFault → Outcome ℕ
table_of s t r = on_varint r (refused 31) (refused 32) (λ e next. need (both (leb 2 e) (leb e 255)) 33 (values s t e next))

-- tags: 0 PLAIN, 1 CONST, 2 DICT, 3 ALL_NULL
unfoldable pub const_piece : List ℕ → ColumnType → ℕ → ℕ → Outcome ℕ
const_piece s t tag at = pick (eqb tag 1) (values s t 1 at) (found at)

unfoldable pub table_piece : List ℕ → ColumnType → ℕ → ℕ → Outcome ℕ
table_piece s t tag at = pick (eqb tag 2) (table_of s t (varint_at s at)) (found at)

-- the bitmap of n rows, if the column has one: "31 for the whole, .. 34, then 35 (a null bit .. in a NOT NULL column)"
unfoldable pub nulls_piece : List ℕ → Bool → Bool → ℕ → ℕ → Outcome ℕ
nulls_piece s nullable mapped n at =
    pick mapped
    (need (leb (at + ceil8 n) (length s)) 31
    (need (low_spare_zero s at n) 34
    (need (either nullable (eqb (low_count s at n) 0)) 35
    (found (at + ceil8 n)))))
    (found at)

-- how many of the first k rows are not null; the column's bitmap, if it has one, is at p
unfoldable pub live : List ℕ → Bool → ℕ → ℕ → ℕ
live s mapped p k = pick mapped (k - low_count s p k) k

-- m indexes of w bits into e entries: "31 for the whole, 33 in order, 34"
unfoldable pub indexes : List ℕ → ℕ → ℕ → ℕ → ℕ → Outcome ℕ
indexes s at m w e =
    need (leb (at + ceil8 (m * w)) (length s)) 31
    (need (every (λ j. ltb (low_bits s at (j * w) w) e) (from 0 m)) 33
    (need (low_spare_zero s at (m * w)) 34
    (found (at + ceil8 (m * w)))))

-- "PLAIN has the non-null values; DICT .. has one index for each": m values; the column's table is at table
unfoldable pub data_piece : List ℕ → ColumnType → ℕ → ℕ → ℕ → ℕ → Outcome ℕ
data_piece s t tag m table at =
    pick (eqb tag 0) (values s t m at)
    (pick (eqb tag 2)
    (indexes s at m (index_width (entries_of (varint_at s table))) (entries_of (varint_at s table)))
    (found at))

-- the piece of a column in the parts 0 CONST values, 1 DICT tables, 2 null bitmaps, 3 column data, of n rows
unfoldable pub piece : ℕ → List ℕ → Column → ℕ → Bool → ℕ → ℕ → ℕ → ℕ → Outcome ℕ
piece part s c tag mapped n table nulls at =
    pick (eqb part 0) (const_piece s c.ty tag at)
    (pick (eqb part 1) (table_piece s c.ty tag at)
    (pick (eqb part 2) (nulls_piece s c.nullable mapped n at)
    (data_piece s c.ty tag (live s mapped nulls n) table at)))

-- the entry that index j of the data at cells names in the table at table
unfoldable pub entry_of : List ℕ → ColumnType → ℕ → ℕ → ℕ → Outcome Field
entry_of s t j table cells =
    nth s t (after_of (varint_at s table))
    (low_bits s cells (j * index_width (entries_of (varint_at s table))) (index_width (entries_of (varint_at s table))))

-- the value of row r, not null: its pieces are at const, table, nulls and cells
unfoldable pub value_of : List ℕ → ColumnType → ℕ → Bool → ℕ → ℕ → ℕ → ℕ → ℕ → Outcome Field
value_of s t tag mapped r const table nulls cells =
    pick (eqb tag 1) (nth s t const 0)
    (pick (eqb tag 0) (nth s t cells (live s mapped nulls r))
    (entry_of s t (live s mapped nulls r) table cells))
