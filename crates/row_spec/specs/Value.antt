-- What the bytes of one value mean: in rows little endian, in buckets (big is true) big endian.
use Rattle.std.specs.Prelude.{ℕ, ◌+◌, Bool, true, false, Result, Ok, Err, List, length, get_or, leb, eqb, ℤ}
use Rattle.std.specs.Float.Ieee as ieee
use Rattle.std.specs.Float.{Format, binary32, binary64}
use Rattle.std.specs.Float.Ieee.{nan_bits, of_bits}
use Rattle.common.specs.Outcome.{pick}
use Rattle.common.specs.Bytes.{little_at, big_at, signed_of}
use Rattle.row_spec.specs.Read.{read}
use Rattle.row_spec.specs.Varint.{varint, varint_at, on_varint}
use Rattle.row_spec.specs.declared.Varint.{Varint}
use Rattle.row_spec.specs.declared.ReadFault.{ReadFault}
use Rattle.row_spec.specs.declared.ReadFault.TheVariants.{CutShort, IllFormed}
use Rattle.row_spec.specs.declared.Read.{Read}
use Rattle.row_spec.specs.declared.ColumnType.{ColumnType}
use Rattle.row_spec.specs.declared.ColumnType.TheVariants as type
use Rattle.row_spec.specs.declared.Field.{Field}
use Rattle.row_spec.specs.declared.Field.TheVariants as field
use Rattle.row_spec.specs.declared.Storage.{Storage}
use Rattle.row_spec.specs.declared.Storage.TheVariants as storage

-- a field and the place of the next byte, or why there is none
abbrev pub Value : Type 0
Value = Result (Read Field) ReadFault

-- by what was read: cut short, bad, or a field and the place of the next byte
abbrev pub on_value : {A : Type 0} → Value → A → A → (Field → ℕ → A) → A
on_value (Err CutShort) cut bad f = cut
on_value (Err IllFormed) cut bad f = bad
on_value (Ok r) cut bad f = f r.value r.next

-- "a float or double with exactly the stored bits": a NaN's bits as they are stored, any other pattern as the float
-- that it stands for
unfoldable pub pattern : Format → (ℕ → Field) → (ieee.Float → Field) → ℕ → Field
pattern f bits float n = pick (nan_bits f n) (bits n) (float (of_bits f n))

abbrev pub single : ℕ → Field
single n = pattern binary32 field.NanF32 field.F32 n

abbrev pub double : ℕ → Field
double n = pattern binary64 field.NanF64 field.F64 n

-- "in the widths of source 001" (rows), "as in source 000" (buckets): they differ in TIMESTAMP alone
abbrev pub storage_of : Bool → ColumnType → Storage
storage_of big type.Boolean = storage.Boolean
storage_of big type.TinyInt = storage.Int8
storage_of big type.SmallInt = storage.Int16
storage_of big type.Int = storage.Int32
storage_of big type.BigInt = storage.Int64
storage_of big type.Float = storage.Float32
storage_of big type.Double = storage.Float64
storage_of big type.Date = storage.Int32
storage_of big (type.Char n) = storage.Sized 0
storage_of big (type.Varchar n) = storage.Sized 0
storage_of big type.String = storage.Sized 0
storage_of big (type.Binary n) = storage.Sized 0
storage_of big (type.Varbinary n) = storage.Sized 0
storage_of big type.Bytes = storage.Sized 0
storage_of big (type.Decimal p n) = pick (leb p 18) storage.Int64 (storage.Sized 1)
storage_of big (type.Time p) = storage.Int32
storage_of false (type.Timestamp p) = pick (leb p 3) storage.Time storage.TimeVarint
storage_of true (type.Timestamp p) = pick (leb p 6) storage.Time storage.TimeFixed

-- the number of w bytes, in either order
unfoldable pub word_at : Bool → List ℕ → ℕ → ℕ → ℕ
word_at true s at w = big_at s at w
word_at false s at w = little_at s at w

-- w bytes are there, or what is read is cut short
unfoldable pub room : {A : Type 0} → List ℕ → ℕ → ℕ → Result A ReadFault → Result A ReadFault
room s at w v = pick (leb (at + w) (length s)) v (Err CutShort)

-- a two's complement number of w bytes, whose highest bit is worth half
unfoldable pub whole_at : Bool → List ℕ → ℕ → ℕ → ℕ → Value
whole_at big s at w half = room s at w (Ok (read (field.Whole (signed_of half (word_at big s at w))) (at + w)))

-- "BOOLEAN is 0 or 1"
unfoldable pub boolean_at : List ℕ → ℕ → Value
boolean_at s at = room s at 1
    (pick (leb (get_or s at 0) 1) (Ok (read (field.Bool (eqb (get_or s at 0) 1)) (at + 1))) (Err IllFormed))

-- bytes after their length, at least so many ("DECIMAL over precision 18 has at least one byte"): "its bytes' start in
-- the block or bucket, and length"
unfoldable pub sized_of : List ℕ → ℕ → Result Varint ReadFault → Value
sized_of s least r =
    on_varint r (Err CutShort) (Err IllFormed) (λ n next.
    room s next n (pick (leb least n) (Ok (read (field.Place next n) (next + n))) (Err IllFormed)))

-- "the stored 8-byte count in its own unit"
abbrev pub count_at : Bool → List ℕ → ℕ → ℤ
count_at big s at = signed_of 9223372036854775808 (word_at big s at 8)

-- "nanoseconds 0 to 999,999"
unfoldable pub nanos_of : ℤ → Result Varint ReadFault → Value
nanos_of z r = on_varint r (Err CutShort) (Err IllFormed)
    (λ n next. pick (leb n 999999) (Ok (read (field.Time z n) next)) (Err IllFormed))

unfoldable pub stored_at : Bool → List ℕ → ℕ → Storage → Value
stored_at big s at storage.Boolean = boolean_at s at
stored_at big s at storage.Int8 = whole_at big s at 1 128
stored_at big s at storage.Int16 = whole_at big s at 2 32768
stored_at big s at storage.Int32 = whole_at big s at 4 2147483648
stored_at big s at storage.Int64 = whole_at big s at 8 9223372036854775808
stored_at big s at storage.Float32 = room s at 4 (Ok (read (single (word_at big s at 4)) (at + 4)))
stored_at big s at storage.Float64 = room s at 8 (Ok (read (double (word_at big s at 8)) (at + 8)))
stored_at big s at (storage.Sized least) = sized_of s least (varint_at s at)
stored_at big s at storage.Time = room s at 8 (Ok (read (field.Time (count_at big s at) 0) (at + 8)))
stored_at big s at storage.TimeVarint = room s at 8 (nanos_of (count_at big s at) (varint_at s (at + 8)))
-- four fixed bytes, not groups: the mark is not looked at
stored_at big s at storage.TimeFixed =
    room s at 12 (nanos_of (count_at big s at) (Ok (varint (word_at big s (at + 8) 4) (at + 12) true)))

-- the value of a type at at
unfoldable pub value_at : Bool → List ℕ → ℕ → ColumnType → Value
value_at big s at t = stored_at big s at (storage_of big t)
