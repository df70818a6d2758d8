-- What holds of every value that is read: its place, if it is one, lies within the bytes, and it is never Null.
-- Assumes nothing.
use Rattle.std.specs.Prelude.{Result, Ok, Err}
use mathlib.Core.Path.{◌≡◌, refl, sym, ap}
use mathlib.Core.Bool.{Bool, true, false}
use mathlib.Core.Logic.{◌⊎◌, inl, inr}
use mathlib.Core.List.{List}
use Prim.Native.Nat.{ℕ, ◌+◌}
use borrow.Author.Tests.{eqb-true, eqb-false}
use lib.ListN.{length, get_or}
use lib.Dec.{leb, eqb}
use lib.IntN.{ℤ}
use lib.Ieee as ieee
use lib.Ieee.{Format, nan_bits, of_bits, binary32, binary64}
use Rattle.common.specs.Outcome.{pick}
use Rattle.common.specs.Bytes.{low_bit}
use Rattle.common.proofs.Outcomes.{clash}
use Rattle.row_spec.specs.Read.{read}
use Rattle.row_spec.specs.Varint.{varint, varint_at}
use Rattle.row_spec.specs.Value.{Value, pattern, storage_of, word_at, room, whole_at, boolean_at, sized_of, nanos_of}
use Rattle.row_spec.specs.Value.{count_at}
use Rattle.row_spec.specs.Value.{stored_at, value_at}
use Rattle.row_spec.specs.Block.{field_at}
use Rattle.row_spec.specs.Answer.{inside}
use Rattle.row_spec.specs.declared.Column.{Column}
use Rattle.row_spec.specs.declared.ColumnType.{ColumnType}
use Rattle.row_spec.specs.declared.Read.{Read}
use Rattle.row_spec.specs.declared.Varint.{Varint}
use Rattle.row_spec.specs.declared.ReadFault.{ReadFault}
use Rattle.row_spec.specs.declared.ReadFault.TheVariants.{CutShort, IllFormed}
use Rattle.row_spec.specs.declared.Field.{Field}
use Rattle.row_spec.specs.declared.Field.TheVariants as field
use Rattle.row_spec.specs.declared.Storage.{Storage}
use Rattle.row_spec.specs.declared.Storage.TheVariants as storage
use Rattle.row_laws.proofs.Varints.{same-ok}

-- a test that holds of whatever can be read from the bytes s
record Passes (s : List ℕ) (test : Field → Bool) : Type 0 where
  bool : (b : Bool) → test (field.Bool b) ≡ true
  whole : (z : ℤ) → test (field.Whole z) ≡ true
  float : (x : ieee.Float) → test (field.F32 x) ≡ true
  float-bits : (n : ℕ) → test (field.NanF32 n) ≡ true
  double : (x : ieee.Float) → test (field.F64 x) ≡ true
  double-bits : (n : ℕ) → test (field.NanF64 n) ≡ true
  time : (z : ℤ) (n : ℕ) → test (field.Time z n) ≡ true
  place : (a l : ℕ) → leb (a + l) (length s) ≡ true → test (field.Place a l) ≡ true

module _ (s : List ℕ) (test : Field → Bool) (f : Field) (next : ℕ) where
  from : (x : Field) (p : ℕ) → test x ≡ true → ◌≡◌ {A = Value} (Ok (read x p)) (Ok (read f next)) → test f ≡ true
  from x p h e = let q : x ≡ f = ap (λ (r : Read Field). r.value) (same-ok e) in rw (← q) h

  roomed : (at w : ℕ) (v : Value) → room s at w v ≡ Ok (read f next)
      → (leb (at + w) (length s) ≡ true) × (v ≡ Ok (read f next))
  unfolding room
  roomed at w v e = by-test (leb (at + w) (length s)) e
    where
      by-test : (t : Bool) → pick t v (Err CutShort) ≡ Ok (read f next) → (t ≡ true) × (v ≡ Ok (read f next))
      by-test true q = (refl, q)
      by-test false q = clash (cc)

  chosen : (t : Bool) (v : Value) → pick t v (Err IllFormed) ≡ Ok (read f next) → v ≡ Ok (read f next)
  chosen true v e = e
  chosen false v e = clash (cc)

  float-passes : (g : Format) (bits : ℕ → Field) (float : ieee.Float → Field) (m p : ℕ)
      → ((k : ℕ) → test (bits k) ≡ true) → ((x : ieee.Float) → test (float x) ≡ true)
      → ◌≡◌ {A = Value} (Ok (read (pattern g bits float m) p)) (Ok (read f next)) → test f ≡ true
  unfolding pattern
  float-passes g bits float m p b x e = from (pattern g bits float m) p (by-test (nan_bits g m)) e
    where
      by-test : (t : Bool) → test (pick t (bits m) (float (of_bits g m))) ≡ true
      by-test true = b m
      by-test false = x (of_bits g m)

  module _ (ok : Passes s test) where
    nanos-passes : (z : ℤ) (r : Result Varint ReadFault) → nanos_of z r ≡ Ok (read f next) → test f ≡ true
    unfolding nanos_of
    nanos-passes z (Err CutShort) e = clash (cc)
    nanos-passes z (Err IllFormed) e = clash (cc)
    nanos-passes z (Ok r) e =
        from (field.Time z r.number) r.next (ok.time z r.number) (chosen (leb r.number 999999) _ e)

    sized-passes : (least : ℕ) (r : Result Varint ReadFault) → sized_of s least r ≡ Ok (read f next) → test f ≡ true
    unfolding sized_of
    sized-passes least (Err CutShort) e = clash (cc)
    sized-passes least (Err IllFormed) e = clash (cc)
    sized-passes least (Ok r) e =
        let n = r.number in
        let p = r.next in
        let h = roomed p n _ e in
        from (field.Place p n) (p + n) (ok.place p n h.0) (chosen (leb least n) _ h.1)

    whole-passes : (big : Bool) (at w half : ℕ) → whole_at big s at w half ≡ Ok (read f next) → test f ≡ true
    unfolding whole_at
    whole-passes big at w half e = from _ (at + w) (ok.whole _) (roomed at w _ e).1

    stored-passes : (big : Bool) (at : ℕ) (st : Storage) → stored_at big s at st ≡ Ok (read f next) → test f ≡ true
    unfolding stored_at boolean_at
    stored-passes big at storage.Boolean e =
        from _ (at + 1) (ok.bool _) (chosen (leb (get_or s at 0) 1) _ (roomed at 1 _ e).1)
    stored-passes big at storage.Int8 e = whole-passes big at 1 128 e
    stored-passes big at storage.Int16 e = whole-passes big at 2 32768 e
    stored-passes big at storage.Int32 e = whole-passes big at 4 2147483648 e
    stored-passes big at storage.Int64 e = whole-passes big at 8 9223372036854775808 e
    stored-passes big at storage.Float32 e =
        float-passes binary32 field.NanF32 field.F32 (word_at big s at 4) (at + 4) ok.float-bits ok.float
        (roomed at 4 _ e).1
    stored-passes big at storage.Float64 e =
        float-passes binary64 field.NanF64 field.F64 (word_at big s at 8) (at + 8) ok.double-bits ok.double
        (roomed at 8 _ e).1
    stored-passes big at (storage.Sized least) e = sized-passes least (varint_at s at) e
    stored-passes big at storage.Time e = from _ (at + 8) (ok.time _ 0) (roomed at 8 _ e).1
    stored-passes big at storage.TimeVarint e =
        nanos-passes (count_at big s at) (varint_at s (at + 8)) (roomed at 8 _ e).1
    stored-passes big at storage.TimeFixed e =
        nanos-passes (count_at big s at) (Ok (varint (word_at big s (at + 8) 4) (at + 12) true)) (roomed at 12 _ e).1

module _ (s : List ℕ) (f : Field) (next : ℕ) (big : Bool) (at : ℕ) (t : ColumnType) where
  -- a value's place lies within the bytes
  pub value-inside : value_at big s at t ≡ Ok (read f next) → inside (length s) f ≡ true
  unfolding value_at inside
  value-inside e = stored-passes s (inside (length s)) f next passes big at (storage_of big t) e
    where
      passes : Passes s (inside (length s))
      passes =
          record {
            bool = λ b. refl;
            whole = λ z. refl;
            float = λ x. refl;
            float-bits = λ n. refl;
            double = λ x. refl;
            double-bits = λ n. refl;
            time = λ z n. refl;
            place = λ a l h. h;
          }

  -- a value is never Null
  pub value-some : value_at big s at t ≡ Ok (read f next) → f ≡ field.Null → ⊥
  unfolding value_at
  value-some e q =
      let z : some f ≡ true = stored-passes s some f next passes big at (storage_of big t) e in clash (cc (rw q at z))
    where
      some : Field → Bool
      some field.Null = false
      some (field.Bool b) = true
      some (field.Whole z) = true
      some (field.F32 x) = true
      some (field.F64 x) = true
      some (field.NanF32 n) = true
      some (field.NanF64 n) = true
      some (field.Time z n) = true
      some (field.Place a l) = true

      passes : Passes s some
      passes =
          record {
            bool = λ b. refl;
            whole = λ z. refl;
            float = λ x. refl;
            float-bits = λ n. refl;
            double = λ x. refl;
            double-bits = λ n. refl;
            time = λ z n. refl;
            place = λ a l h. refl;
          }

-- a field of a row that was read: null by its bit, in a column that may be null, or the value of its column's type
abbrev pub NullField : List ℕ → ℕ → ℕ → Column → Field → Type 0
NullField s base i c f = (low_bit s base i ≡ 1) × ((c.nullable ≡ true) × (f ≡ field.Null))

abbrev pub ValueField : List ℕ → ℕ → ℕ → Column → ℕ → Field → ℕ → Type 0
ValueField s base i c at f next = (low_bit s base i ≡ 1 → ⊥) × (value_at false s at c.ty ≡ Ok (read f next))

pub field-cases : (s : List ℕ) (base i : ℕ) (c : Column) (at : ℕ) (f : Field) (next : ℕ)
    → field_at s base i c at ≡ Ok (read f next) → NullField s base i c f ⊎ ValueField s base i c at f next
unfolding field_at
field-cases s base i c at f next e = by_bit (eqb (low_bit s base i) 1) refl e
  where
    by-nullable : (b : Bool) → pick b (Ok (read field.Null at)) (Err IllFormed) ≡ Ok (read f next)
        → (b ≡ true) × (f ≡ field.Null)
    by-nullable true q = (refl, let z : f ≡ field.Null = sym (ap (λ (r : Read Field). r.value) (same-ok q)) in z)
    by-nullable false q = clash (cc)

    by_bit : (t : Bool) → eqb (low_bit s base i) 1 ≡ t
        → pick t (pick c.nullable (Ok (read field.Null at)) (Err IllFormed)) (value_at false s at c.ty)
        ≡ Ok (read f next)
        → NullField s base i c f ⊎ ValueField s base i c at f next
    by_bit true h q = inl (eqb-true (low_bit s base i) 1 h, by-nullable c.nullable q)
    by_bit false h q = inr (eqb-false (low_bit s base i) 1 h, q)
