-- What 01's rule read is read the same, marked shortest; what it calls cut short is cut short; the rest it refuses as
-- ill-formed. Why: the two rules differ in the last group alone, where a 0 behind other groups is padding. Assumes
-- nothing.
use Rattle.std.specs.Prelude.{Result, Ok, Err}
use mathlib.Core.Path.{◌≡◌, refl, sym, ap, ◌∙◌}
use mathlib.Core.Bool.{Bool, true, false}
use mathlib.Core.List.{List}
use Prim.Native.Nat.{ℕ, zero, suc, ◌+◌, ◌-◌, ◌*◌}
use native.Mathlib.Omega.{arith}
use borrow.Author.Tests.{ltb-true, ltb-false, le-leb, lt-leb, eq-eqb, ne_eqb}
use lib.ListN.{length, get_or}
use lib.Dec.{leb, ltb, eqb}
use Rattle.common.specs.Outcome.{pick, either, both}
use Rattle.common.proofs.Outcomes.{clash}
use Rattle.row_spec.specs.Varint.{varint, varint_at, groups, last_group}
use Rattle.row_spec.specs.declared.Varint.{Varint}
use Rattle.row_spec.specs.declared.ReadFault.{ReadFault}
use Rattle.row_spec.specs.declared.ReadFault.TheVariants.{CutShort, IllFormed}
use Rattle.row_laws.proofs.Varints.{same-ok}
use Rattle.row_laws.specs.Forms.{strict_last, strict_groups, strict_at, strictly}

module _ (b w v next : ℕ) where
  -- a last group is padding exactly if it is 0 and not the first
  padding : both (eqb b 0) (ltb 1 w) ≡ pick (either (ltb 0 b) (leb w 1)) false true
  padding = by-test (ltb 0 b) (ltb 1 w) refl refl
    where
      by-test : (t u : Bool) → ltb 0 b ≡ t → ltb 1 w ≡ u
          → both (eqb b 0) (ltb 1 w) ≡ pick (either (ltb 0 b) (leb w 1)) false true
      by-test true u p q = rw (p, ne_eqb b 0 (λ z. omega (arith, ltb-true 0 b p)))
      by-test false true p q =
          rw (p, q, eq-eqb b 0 (omega (arith, ltb-false 0 b p)), lt-leb w 1 (ltb-true 1 w q))
      by-test false false p q =
          rw (p, q, eq-eqb b 0 (omega (arith, ltb-false 0 b p)), le-leb w 1 (ltb-false 1 w q))

  strict-last : strict_last b w v next ≡ strictly (last_group b w v next)
  unfolding strict_last last_group
  strict-last =
      ap (λ (t : Bool). pick t (Err IllFormed) fits) padding
      ∙ by-test (leb (v + b * w) 4294967295) (either (ltb 0 b) (leb w 1))
    where
      fits : Result Varint ReadFault
      fits = pick (leb (v + b * w) 4294967295) (Ok (varint (v + b * w) next true)) (Err IllFormed)

      by-test : (t u : Bool)
          → pick (pick u false true) (Err IllFormed) (pick t (Ok (varint (v + b * w) next true)) (Err IllFormed))
          ≡ strictly (pick t (Ok (varint (v + b * w) next u)) (Err IllFormed))
      by-test true true = refl
      by-test true false = refl
      by-test false true = refl
      by-test false false = refl

strict-groups : (s : List ℕ) (k at w v : ℕ) → strict_groups s k at w v ≡ strictly (groups s k at w v)
unfolding strict_groups groups
strict-groups s zero at w v = refl
strict-groups s (suc k) at w v =
    by-test (ltb at (length s)) (ltb (get_or s at 0) 128)
    (last_group (get_or s at 0) w v (at + 1)) (strict-last (get_or s at 0) w v (at + 1))
    (groups s k (at + 1) (w * 128) (v + (get_or s at 0 - 128) * w))
    (strict-groups s k (at + 1) (w * 128) (v + (get_or s at 0 - 128) * w))
  where
    by-test : (t u : Bool) {a' r' : Result Varint ReadFault} (a : Result Varint ReadFault) → a' ≡ strictly a
        → (r : Result Varint ReadFault) → r' ≡ strictly r
        → pick t (pick u a' r') (Err CutShort) ≡ strictly (pick t (pick u a r) (Err CutShort))
    by-test true true a p r q = p
    by-test true false a p r q = q
    by-test false u a p r q = refl

-- 01's rule is the reading with padded numbers refused as ill-formed
pub strict-is : (s : List ℕ) (at : ℕ) → strict_at s at ≡ strictly (varint_at s at)
unfolding strict_at varint_at
strict-is s at = strict-groups s 5 at 1 0

-- what 01's rule read is read the same, marked shortest
pub still_read : (s : List ℕ) (at n next : ℕ) (short : Bool) → strict_at s at ≡ Ok (varint n next short)
    → varint_at s at ≡ Ok (varint n next true)
still_read s at n next short e = by-case (varint_at s at) (sym (strict-is s at) ∙ e)
  where
    by-mark : (r : Varint) (t : Bool) → r.shortest ≡ t
        → strictly (Ok (varint r.number r.next t)) ≡ Ok (varint n next short)
        → ◌≡◌ {A = Result Varint ReadFault} (Ok r) (Ok (varint n next true))
    by-mark r true m q =
        let z = same-ok q in
        let x : r.number ≡ n = ap (λ (v : Varint). v.number) z in
        let y : r.next ≡ next = ap (λ (v : Varint). v.next) z in
        rw (← x, ← y, ← m)
    by-mark r false m q = clash (cc)

    by-case : (r : Result Varint ReadFault) → strictly r ≡ Ok (varint n next short) → r ≡ Ok (varint n next true)
    by-case (Err CutShort) q = clash (cc)
    by-case (Err IllFormed) q = clash (cc)
    by-case (Ok r) q = by-mark r r.shortest refl q

-- and what is read marked shortest, 01's rule read
pub read-still : (s : List ℕ) (at n next : ℕ) → varint_at s at ≡ Ok (varint n next true)
    → strict_at s at ≡ Ok (varint n next true)
read-still s at n next e = strict-is s at ∙ ap strictly e
