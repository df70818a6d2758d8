-- When a cell holds what was read: by what is asked before it, then by how the value is stored.
-- Assumes nothing.
use Rattle.std.specs.Prelude.{Ok, Err}
use mathlib.Core.Path.{◌≡◌, refl, sym, ap, ◌∙◌}
use mathlib.Core.Bool.{Bool, true, false}
use mathlib.Core.List.{List, [], ◌∷◌}
use Prim.Native.Nat.{ℕ, ◌+◌, ◌^◌, ◌<◌, ◌≤◌}
use native.Mathlib.Omega.{arith}
use lib.ListN.{length, get_or}
use lib.Dec.{leb, eqb}
use borrow.Author.Tests.{leb-true, eqb-true, eqb-false}
use Rattle.common.specs.Outcome.{pick, one}
use Rattle.common.specs.Bytes.{signed_of, little_at, big_at}
use Rattle.common.proofs.Outcomes.{clash}
use Rattle.row_spec.specs.Read.{read}
use Rattle.row_spec.specs.Varint.{varint, on_varint}
use Rattle.row_spec.specs.Value.{Value, room, word_at, boolean_at, whole_at, sized_of, nanos_of, stored_at}
use Rattle.row_spec.specs.Page.{unsigned, listed}
use Rattle.row_spec.specs.declared.Field.{Field}
use Rattle.row_spec.specs.declared.Field.TheVariants as field
use Rattle.row_spec.specs.declared.Storage.TheVariants as storage
use Rattle.row_spec.specs.declared.Read.{Read}
use Rattle.row_spec.specs.declared.ReadFault.{ReadFault}
use Rattle.row_spec.specs.declared.ReadFault.TheVariants.{CutShort, IllFormed}
use Rattle.row_laws.proofs.Varints.{same-ok}
use Rattle.row_laws.proofs.TwosComplement.{unsigned-word}
use Rattle.row_laws.proofs.Patterns.{single-listed, double-listed}
use Rattle.value_list.specs.declared.Cell.{Cell}
use Rattle.value_list.specs.Cell.{cell_of, numbers_in, Holds}

-- a test that failed does not hold
pub not_there : {A : Type 0} {t u : Bool} → t ≡ u → t ≡ false → u ≡ true → A
not_there e f g = clash (ap one (sym f ∙ e ∙ g))

module _ (c : Cell) where
  -- where nothing was read any cell will do
  pub fault-holds : (r : ReadFault) → Holds (Err r) c
  fault-holds r = record { numbers = λ f next e. clash (cc); ends = λ f next e. clash (cc) }

  pub number-fault-holds : (r : ReadFault) (f : ℕ → ℕ → Value)
      → Holds (on_varint (Err r) (Err CutShort) (Err IllFormed) f) c
  number-fault-holds CutShort f = fault-holds CutShort
  number-fault-holds IllFormed f = fault-holds IllFormed

  pub read-holds : (f : Field) (next : ℕ) → numbers_in c ≡ listed f → c.next ≡ next → Holds (Ok (read f next)) c
  read-holds f next n e =
      record {
        numbers = λ g after q. let p : f ≡ g = ap (λ (r : Read Field). r.value) (same-ok q) in n ∙ ap listed p;
        ends = λ g after q. let p : next ≡ after = ap (λ (r : Read Field). r.next) (same-ok q) in e ∙ p;
      }

  pub pick-holds : (t : Bool) (v : Value) → Holds v c → Holds (pick t v (Err IllFormed)) c
  pick-holds true v h = h
  pick-holds false v h = fault-holds IllFormed

  pub room-holds : (s : List ℕ) (at w : ℕ) (v : Value) → (leb (at + w) (length s) ≡ true → Holds v c)
      → Holds (room s at w v) c
  unfolding room
  room-holds s at w v h = by-test (leb (at + w) (length s)) refl
    where
      by-test : (t : Bool) → leb (at + w) (length s) ≡ t → Holds (pick t v (Err CutShort)) c
      by-test true e = h e
      by-test false e = fault-holds CutShort

-- a byte that is 0 or 1 is the number of its truth value
small : (n : ℕ) → n ≤ 1 → n ≡ one (eqb n 1)
small n h = by-test (eqb n 1) refl
  where
    by-test : (t : Bool) → eqb n 1 ≡ t → n ≡ one t
    by-test true e = eqb-true n 1 e
    by-test false e = let q = eqb-false n 1 e in omega arith

-- a cell of these numbers
cell_holds : (c : Cell) (k n m : ℕ) (f : Field) (next : ℕ) → c ≡ cell_of k n m next → k ∷ n ∷ m ∷ [] ≡ listed f
    → Holds (Ok (read f next)) c
cell_holds c k n m f next is e =
    read-holds c f next (ap numbers_in is ∙ e) (ap (λ (x : Cell). x.next) is)

-- ---- values of w bytes
module _ (big : Bool) (s : List ℕ) (at : ℕ) (c : Cell) where
  -- a byte, in either order
  byte_word : word_at big s at 1 ≡ get_or s at 0
  unfolding word_at little_at big_at
  byte_word = by_order big
    where
      by_order : (b : Bool) → word_at b s at 1 ≡ get_or s at 0
      by_order true = let e : at + 0 ≡ at = omega arith in rw e (omega arith)
      by_order false = omega arith

  -- the cell has the number of w bytes, which is small enough
  abbrev Word : ℕ → ℕ → Type 0
  Word w k =
      leb (at + w) (length s) ≡ true
      → (c ≡ cell_of k (word_at big s at w) 0 (at + w)) × (word_at big s at w < 256 ^ w)

  pub boolean-holds : Word 1 1 → Holds (stored_at big s at storage.Boolean) c
  unfolding stored_at boolean_at listed
  boolean-holds h =
      room-holds c s at 1 _ (λ r. by-test (leb (get_or s at 0) 1) refl (h r).0)
    where
      by-test : (t : Bool) → leb (get_or s at 0) 1 ≡ t → c ≡ cell_of 1 (word_at big s at 1) 0 (at + 1)
          → Holds (pick t (Ok (read (field.Bool (eqb (get_or s at 0) 1)) (at + 1))) (Err IllFormed)) c
      by-test false e is = fault-holds c IllFormed
      by-test true e is =
          cell_holds c 1 (word_at big s at 1) 0 (field.Bool (eqb (get_or s at 0) 1)) (at + 1) is
          (ap (λ (n : ℕ). 1 ∷ n ∷ 0 ∷ []) (byte_word ∙ small (get_or s at 0) (leb-true (get_or s at 0) 1 e)))

  pub whole-holds : (w half : ℕ)
      → (leb (at + w) (length s) ≡ true → c ≡ cell_of 2 (unsigned (signed_of half (word_at big s at w))) 0 (at + w))
      → Holds (whole_at big s at w half) c
  unfolding whole_at listed
  whole-holds w half h =
      room-holds c s at w _ (λ r.
      cell_holds c 2 _ 0 (field.Whole (signed_of half (word_at big s at w))) (at + w) (h r) refl)

  -- 64 bits as they are
  pub long-holds : Word 8 2 → Holds (stored_at big s at storage.Int64) c
  unfolding stored_at whole_at listed
  long-holds h =
      room-holds c s at 8 _ (λ r.
      cell_holds c 2 (word_at big s at 8) 0 _ (at + 8) (h r).0
      (ap (λ (n : ℕ). 2 ∷ n ∷ 0 ∷ []) (sym (unsigned-word (word_at big s at 8) (h r).1))))

  pub float-holds : Word 4 3 → Holds (stored_at big s at storage.Float32) c
  unfolding stored_at
  float-holds h =
      room-holds c s at 4 _ (λ r.
      cell_holds c 3 (word_at big s at 4) 0 _ (at + 4) (h r).0 (sym (single-listed (word_at big s at 4) (h r).1)))

  pub double-holds : Word 8 4 → Holds (stored_at big s at storage.Float64) c
  unfolding stored_at
  double-holds h =
      room-holds c s at 8 _ (λ r.
      cell_holds c 4 (word_at big s at 8) 0 _ (at + 8) (h r).0 (sym (double-listed (word_at big s at 8) (h r).1)))

  pub time-holds : Word 8 5 → Holds (stored_at big s at storage.Time) c
  unfolding stored_at listed
  time-holds h =
      room-holds c s at 8 _ (λ r.
      cell_holds c 5 (word_at big s at 8) 0 _ (at + 8) (h r).0
      (ap (λ (n : ℕ). 5 ∷ n ∷ 0 ∷ []) (sym (unsigned-word (word_at big s at 8) (h r).1))))

-- ---- values after a number in groups of seven bits
pub place-holds : (s : List ℕ) (least n next : ℕ) (short : Bool) (c : Cell)
    → (leb (next + n) (length s) ≡ true → c ≡ cell_of 6 next n (next + n))
    → Holds (sized_of s least (Ok (varint n next short))) c
unfolding sized_of listed
place-holds s least n next short c h =
    room-holds c s next n _ (λ r.
    pick-holds c (leb least n) _ (cell_holds c 6 next n (field.Place next n) (next + n) (h r) refl))

pub nanos-holds : (count n next : ℕ) (short : Bool) (c : Cell) → count < 18446744073709551616
    → c ≡ cell_of 5 count n next
    → Holds (nanos_of (signed_of 9223372036854775808 count) (Ok (varint n next short))) c
unfolding nanos_of listed
nanos-holds count n next short c h is =
    pick-holds c (leb n 999999) _
    (cell_holds c 5 count n (field.Time (signed_of 9223372036854775808 count) n) next is
    (ap (λ (m : ℕ). 5 ∷ m ∷ n ∷ []) (sym (unsigned-word count h))))
