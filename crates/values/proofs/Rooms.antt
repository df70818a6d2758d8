-- What follows from room for w bytes, or none.
-- Assumes nothing.
use Rattle.std.specs.Prelude.{Result, Ok, Err}
use mathlib.Core.Path.{◌≡◌, refl, ap}
use mathlib.Core.Bool.{Bool, true, false}
use mathlib.Core.List.{List}
use Prim.Native.Nat.{ℕ, ◌+◌, ◌≤◌}
use native.Mathlib.Omega.{arith}
use borrow.Author.Tests.{leb-true, leb-false, le-leb, lt-leb}
use lib.ListN.{length}
use lib.Dec.{leb}
use Rattle.common.specs.Outcome.{pick}
use Rattle.common.proofs.Outcomes.{clash}
use Rattle.row_spec.specs.Read.{read}
use Rattle.row_spec.specs.Varint.{on_varint}
use Rattle.row_spec.specs.Value.{Value, room}
use Rattle.row_spec.specs.declared.Read.{Read}
use Rattle.row_spec.specs.declared.ReadFault.{ReadFault}
use Rattle.row_spec.specs.declared.ReadFault.TheVariants.{CutShort, IllFormed}
use Rattle.row_laws.proofs.Varints.{same-ok}

-- a number that is not read makes no value
pub fault : (e : ReadFault) (f : ℕ → ℕ → Value) → Err e ≡ on_varint (Err e) (Err CutShort) (Err IllFormed) f
fault CutShort f = refl
fault IllFormed f = refl

module _ (s : List ℕ) (at w : ℕ) where
  pub room_there : {A : Type 0} → at + w ≤ length s → (y : Result A ReadFault) → room s at w y ≡ y
  unfolding room
  room_there h y = rw (le-leb (at + w) (length s) h)

  module _ (n : ℕ) where
    -- without room whatever needs as much is cut short
    pub no-room : {A : Type 0} (e : ReadFault) → Err e ≡ room s at w (Ok (read n (at + w))) → (from m : ℕ)
        → at + w ≤ from + m → (y : Result A ReadFault) → Err e ≡ room s from m y
    unfolding room
    no-room {A} e h from m more y = by-test (leb (at + w) (length s)) refl h
      where
        by-test : (t : Bool) → leb (at + w) (length s) ≡ t → Err e ≡ pick t (Ok (read n (at + w))) (Err CutShort)
            → ◌≡◌ {A = Result A ReadFault} (Err e) (pick (leb (from + m) (length s)) y (Err CutShort))
        by-test true r q = clash (cc)
        by-test false r q =
            let z : e ≡ CutShort = cc in
            let l = leb-false (at + w) (length s) r in
            rw (z, lt-leb (from + m) (length s) (omega arith))

    -- a word that was read
    pub record Word (r : Read ℕ) : Type 0 where
      pub value : r.value ≡ n
      pub next : r.next ≡ at + w
      pub fits : at + w ≤ length s

    pub with-room : (r : Read ℕ) → Ok r ≡ room s at w (Ok (read n (at + w))) → Word r
    unfolding room
    with-room r h = by-test (leb (at + w) (length s)) refl h
      where
        by-test : (t : Bool) → leb (at + w) (length s) ≡ t → Ok r ≡ pick t (Ok (read n (at + w))) (Err CutShort)
            → Word r
        by-test true e q =
            let same = same-ok q in
            record {
              value = ap (λ (x : Read ℕ). x.value) same;
              next = ap (λ (x : Read ℕ). x.next) same;
              fits = leb-true (at + w) (length s) e;
            }
        by-test false e q = clash (cc)
