-- What each case of an answer is: 01's number and values.
use Rattle.std.specs.Prelude.{ℕ, ◌+◌, Result, Ok, Err, Bool, true, ◌≡◌, List, [], take, drop, leb, ℤ, pos}
use Rattle.std.specs.Float.{binary32, binary64}
use Rattle.std.specs.Float.Ieee.{to_bits}
use Rattle.common.specs.Outcome.{one, Outcome, refused, found}
pub use Rattle.common.specs.Outcome.{after}
use Rattle.row_spec.specs.declared.ColumnType.{ColumnType}
use Rattle.row_spec.specs.declared.ColumnType.TheVariants as type
use Rattle.row_spec.specs.declared.Field.{Field}
use Rattle.row_spec.specs.declared.Field.TheVariants as field
use Rattle.row_spec.specs.declared.Varint.{Varint}
use Rattle.row_spec.specs.declared.ReadFault.{ReadFault}
use Rattle.row_spec.specs.declared.ReadFault.TheVariants.{CutShort, IllFormed}
use Rattle.row_spec.specs.declared.NumberShown.{NumberShown}
use Rattle.row_spec.specs.declared.Shown.{Shown}
use Rattle.row_spec.specs.declared.TypeShown.{TypeShown}

-- a number that was read from the front of bytes, as plain numbers: 0 a number, 1 cut short, 2 ill-formed; then the
-- value, "how many bytes it used and whether it was shortest"; what a case does not use is 0
abbrev pub as_number : ℕ → ℕ → ℕ → ℕ → NumberShown
as_number f n k t = record { found = f; value = n; used = k; shortest = t }

unfoldable pub number_shown : Result Varint ReadFault → NumberShown
number_shown (Ok r) = as_number 0 r.number r.next (one r.shortest)
number_shown (Err CutShort) = as_number 1 0 0 0
number_shown (Err IllFormed) = as_number 2 0 0 0

-- a field as plain numbers: kind 0 null, 1 yes or no (whole is 1 or 0), 2 whole number, 3 float and 4 double (their
-- stored bits), 5 time (whole and nanos), 6 place (start and length); what a kind does not use is 0
abbrev pub as_plain : ℕ → ℤ → ℕ → Shown
as_plain k z b = record { kind = k; whole = z; bits = b; nanos = 0; start = 0; length = 0 }

unfoldable pub shown : Field → Shown
shown field.Null = as_plain 0 (pos 0) 0
shown (field.Bool b) = as_plain 1 (pos (one b)) 0
shown (field.Whole z) = as_plain 2 z 0
shown (field.F32 x) = as_plain 3 (pos 0) (to_bits binary32 x)
shown (field.NanF32 n) = as_plain 3 (pos 0) n
shown (field.F64 x) = as_plain 4 (pos 0) (to_bits binary64 x)
shown (field.NanF64 n) = as_plain 4 (pos 0) n
shown (field.Time z n) = record { kind = 5; whole = z; bits = 0; nanos = n; start = 0; length = 0 }
shown (field.Place a l) = record { kind = 6; whole = pos 0; bits = 0; nanos = 0; start = a; length = l }

-- "places, also returned as that very part; for any other answer or a refusal the part is empty"
unfoldable pub part_of : Outcome Field → List ℕ → List ℕ
part_of (found (field.Place a l)) s = take l (drop a s)
part_of (found field.Null) s = []
part_of (found (field.Bool b)) s = []
part_of (found (field.Whole z)) s = []
part_of (found (field.F32 x)) s = []
part_of (found (field.F64 x)) s = []
part_of (found (field.NanF32 n)) s = []
part_of (found (field.NanF64 n)) s = []
part_of (found (field.Time z n)) s = []
part_of (refused n) s = []

-- The part of an answer o that is handed back of the bytes s. A pointer is a memory and an offset in it: the bytes are
-- at from, the part at to. "That very part" starts where the place says. An empty part is free to lie anywhere in the
-- same memory.
pub record VeryPart (o : Outcome Field) (s part : List ℕ) (from to : ℕ × ℕ) : Type 0 where
  pub holds : part ≡ part_of o s
  pub memory : to.0 ≡ from.0
  pub lies : (a l : ℕ) → o ≡ found (field.Place a l) → to.1 ≡ from.1 + a

-- a place lies within n bytes; what is no place lies anywhere
unfoldable pub inside : ℕ → Field → Bool
inside n (field.Place a l) = leb (a + l) n
inside n field.Null = true
inside n (field.Bool b) = true
inside n (field.Whole z) = true
inside n (field.F32 x) = true
inside n (field.F64 x) = true
inside n (field.NanF32 m) = true
inside n (field.NanF64 m) = true
inside n (field.Time z m) = true

-- a type's id, its length or precision (0 where it has none), and its scale (0 where it has none)
abbrev pub as_type : ℕ → ℕ → ℕ → TypeShown
as_type i n k = record { id = i; size = n; scale = k }

unfoldable pub type_shown : ColumnType → TypeShown
type_shown type.Boolean = as_type 0 0 0
type_shown type.TinyInt = as_type 1 0 0
type_shown type.SmallInt = as_type 2 0 0
type_shown type.Int = as_type 3 0 0
type_shown type.BigInt = as_type 4 0 0
type_shown type.Float = as_type 5 0 0
type_shown type.Double = as_type 6 0 0
type_shown type.Date = as_type 7 0 0
type_shown (type.Char n) = as_type 8 n 0
type_shown (type.Varchar n) = as_type 9 n 0
type_shown type.String = as_type 10 0 0
type_shown (type.Binary n) = as_type 11 n 0
type_shown (type.Varbinary n) = as_type 12 n 0
type_shown type.Bytes = as_type 13 0 0
type_shown (type.Decimal p n) = as_type 14 p n
type_shown (type.Time p) = as_type 15 p 0
type_shown (type.Timestamp p) = as_type 16 p 0
