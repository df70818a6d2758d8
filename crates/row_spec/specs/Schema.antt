-- "Schema bytes": the columns, or the refusal 20.
use Rattle.std.specs.Prelude.{ℕ, zero, suc, ◌+◌, List, [], ◌∷◌, ◌++◌, length, get_or, take, drop, replicate, leb, ltb}
use Rattle.std.specs.Prelude.{eqb, false, Option, Some, None, Result}
use Rattle.common.specs.Outcome.{pick, both, Outcome, refused, found, then, need}
use Rattle.row_spec.specs.Read.{read}
use Rattle.row_spec.specs.Varint.{varint_at, on_varint}
use Rattle.row_spec.specs.declared.ReadFault.{ReadFault}
use Rattle.row_spec.specs.declared.Read.{Read}
use Rattle.row_spec.specs.declared.Varint.{Varint}
use Rattle.row_spec.specs.declared.ColumnType.{ColumnType}
use Rattle.row_spec.specs.declared.ColumnType.TheVariants.{Boolean, TinyInt, SmallInt, Int, BigInt, Float, Double}
use Rattle.row_spec.specs.declared.ColumnType.TheVariants.{Date, Char, Varchar, String, Binary, Varbinary, Bytes}
use Rattle.row_spec.specs.declared.ColumnType.TheVariants.{Decimal, Time, Timestamp}
use Rattle.row_spec.specs.declared.Column.{Column}
use Rattle.row_spec.specs.declared.Schema.{Schema}

abbrev pub on_type : {A : Type 0} → Option (Read ColumnType) → A → (ColumnType → ℕ → A) → A
on_type None fault f = fault
on_type (Some r) fault f = f r.value r.next

abbrev pub on_column : {A : Type 0} → Option (Read Column) → A → (Column → ℕ → A) → A
on_column None fault f = fault
on_column (Some r) fault f = f r.value r.next

-- a type with one number, at most hi
unfoldable pub numbered : (ℕ → ColumnType) → ℕ → Result Varint ReadFault → Option (Read ColumnType)
numbered f hi r = on_varint r None None (λ n next. pick (leb n hi) (Some (read (f n) next)) None)

-- "for DECIMAL precision 1 to 38 and scale 0 to precision"
unfoldable pub decimal : List ℕ → Result Varint ReadFault → Option (Read ColumnType)
decimal s r =
    on_varint r None None (λ p next.
    pick (both (leb 1 p) (leb p 38)) (numbered (Decimal p) p (varint_at s next)) None)

-- "ids 0 to 16": a type for each id, in order; what it carries stands at at
unfoldable pub types : List ℕ → ℕ → List (Option (Read ColumnType))
types s at =
    Some (read Boolean at)
    ∷ Some (read TinyInt at)
    ∷ Some (read SmallInt at)
    ∷ Some (read Int at)
    ∷ Some (read BigInt at)
    ∷ Some (read Float at)
    ∷ Some (read Double at)
    ∷ Some (read Date at)
    ∷ numbered Char 4294967295 (varint_at s at)
    ∷ numbered Varchar 4294967295 (varint_at s at)
    ∷ Some (read String at)
    ∷ numbered Binary 4294967295 (varint_at s at)
    ∷ numbered Varbinary 4294967295 (varint_at s at)
    ∷ Some (read Bytes at)
    ∷ decimal s (varint_at s at)
    ∷ numbered Time 9 (varint_at s at)
    ∷ numbered Timestamp 9 (varint_at s at)
    ∷ []

unfoldable pub type_at : List ℕ → ℕ → ℕ → Option (Read ColumnType)
type_at s id at = get_or (types s at) id None

-- "id, nullable (0 or 1)", then what the type carries
unfoldable pub column_at : List ℕ → ℕ → Option (Read Column)
column_at s at =
    pick (both (leb (at + 2) (length s)) (leb (get_or s (at + 1) 0) 1))
    (on_type (type_at s (get_or s at 0) (at + 2)) None (λ t next.
    Some (read (record { ty = t; nullable = eqb (get_or s (at + 1) 0) 1 }) next)))
    None

-- k columns more from at on, after those of done; "Nothing follows."
unfoldable pub columns_from : List ℕ → ℕ → ℕ → List Column → Outcome (List Column)
columns_from s zero at done = need (eqb at (length s)) 20 (found done)
columns_from s (suc k) at done =
    on_column (column_at s at) (refused 20) (λ c next. columns_from s k next (done ++ (c ∷ [])))

-- "A count of columns, then descriptors"; "columns in a schema: 1 to 64"
unfoldable pub schema : List ℕ → Outcome (List Column)
schema s = on_varint (varint_at s 0) (refused 20) (refused 20)
    (λ n next. need (both (leb 1 n) (leb n 64)) 20 (columns_from s n next []))

abbrev pub blank_column : Column
blank_column = record { ty = Boolean; nullable = false }

-- how many columns a schema has
unfoldable pub column_count : List ℕ → Outcome ℕ
column_count d = then (schema d) (λ cols. found (length cols))

-- column i of a schema; "row or column number absent" is 25
unfoldable pub column_of : List ℕ → ℕ → Outcome Column
column_of d i = then (schema d) (λ cols. need (ltb i (length cols)) 25 (found (get_or cols i blank_column)))

-- ---- how the code holds a schema

-- a type with the number n for its own
abbrev pub with_number : ColumnType → ℕ → ColumnType
with_number (Char l) n = Char n
with_number (Varchar l) n = Varchar n
with_number (Binary l) n = Binary n
with_number (Varbinary l) n = Varbinary n
with_number (Time l) n = Time n
with_number (Timestamp l) n = Timestamp n
with_number (Decimal p l) n = Decimal p n
with_number Boolean n = Boolean
with_number TinyInt n = TinyInt
with_number SmallInt n = SmallInt
with_number Int n = Int
with_number BigInt n = BigInt
with_number Float n = Float
with_number Double n = Double
with_number Date n = Date
with_number String n = String
with_number Bytes n = Bytes

-- 64 columns
abbrev pub blanks : List Column
blanks = replicate 64 blank_column

-- the schema's columns, then blank ones
unfoldable pub held : Outcome (List Column) → Outcome Schema
held (refused n) = refused n
held (found cols) = found (record { columns = cols ++ drop (length cols) blanks; count = length cols })

-- the columns of a schema that the code holds
abbrev pub columns_of : Schema → List Column
columns_of x = take x.count x.columns
