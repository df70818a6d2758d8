-- A number in groups of seven bits, group by group, and where it ends.
-- Assumes nothing.
use Rattle.std.specs.Prelude.{Option, Some, None, Result, Ok, Err}
use Rattle.std.specs.Result.{result_ok}
use mathlib.Core.Path.{◌≡◌, refl, ap, ◌∙◌}
use mathlib.Core.Bool.{Bool, true, false}
use mathlib.Core.List.{List}
use Prim.Native.Nat.{ℕ, zero, suc, ◌+◌, ◌-◌, ◌*◌, ◌≤◌, ◌<◌}
use native.Mathlib.Nat.{mul-le-mul}
use native.Mathlib.Omega.{arith}
use borrow.Author.Tests.{lt-ltb, le-ltb, le-leb, lt-leb}
use lib.ListN.{length, get_or}
use lib.Dec.{leb, ltb}
use Rattle.common.specs.Outcome.{pick, either}
use Rattle.common.proofs.Outcomes.{clash}
use Rattle.row_spec.specs.Varint.{varint, groups, last_group, varint_at, on_varint}
use Rattle.row_spec.specs.declared.Varint.{Varint}
use Rattle.row_spec.specs.declared.ReadFault.{ReadFault}
use Rattle.row_spec.specs.declared.ReadFault.TheVariants.{CutShort, IllFormed}

-- an Ok holds one thing
pub same-ok : {A E : Type 0} {a b : A} → ◌≡◌ {A = Result A E} (Ok a) (Ok b) → a ≡ b
same-ok e = cc

pub prod : (a b : ℕ) {m n : ℕ} → m ≤ a → n ≤ b → m * n ≤ a * b
prod a b h g = mul-le-mul h g

module _ (b w v next : ℕ) where
  pub last-large : 4294967295 < v + b * w → last_group b w v next ≡ Err IllFormed
  unfolding last_group
  last-large h = rw (lt-leb _ _ h)

  pub last_fits : v + b * w ≤ 4294967295
      → last_group b w v next ≡ Ok (varint (v + b * w) next (either (ltb 0 b) (leb w 1)))
  unfolding last_group
  last_fits h = rw (le-leb _ _ h)

  pub last_some : v + b * w ≤ 4294967295 → 0 < b → last_group b w v next ≡ Ok (varint (v + b * w) next true)
  last_some h g = last_fits h ∙ rw (lt-ltb 0 b g)

  pub last-zero : v + b * w ≤ 4294967295 → b ≤ 0 → last_group b w v next ≡ Ok (varint (v + b * w) next (leb w 1))
  last-zero h g = last_fits h ∙ rw (le-ltb 0 b g)

module _ (s : List ℕ) (k at w v : ℕ) (more : 0 < k) where
  one : k ≡ suc (k - 1)
  one = omega arith

  pub groups-cut : length s ≤ at → groups s k at w v ≡ Err CutShort
  unfolding groups
  groups-cut h = rw (one, le-ltb _ _ h)

  pub groups-last : at < length s → get_or s at 0 < 128 → groups s k at w v ≡ last_group (get_or s at 0) w v (at + 1)
  unfolding groups
  groups-last h g = rw (one, lt-ltb _ _ h, lt-ltb _ _ g)

  pub groups-more : at < length s → 128 ≤ get_or s at 0
      → groups s k at w v ≡ groups s (k - 1) (at + 1) (w * 128) (v + (get_or s at 0 - 128) * w)
  unfolding groups
  groups-more h g = ap (λ (n : ℕ). groups s n at w v) one ∙ step
    where
      step : groups s (suc (k - 1)) at w v ≡ groups s (k - 1) (at + 1) (w * 128) (v + (get_or s at 0 - 128) * w)
      step = rw (lt-ltb at (length s) h, le-ltb (get_or s at 0) 128 g)

-- a number of one byte is that byte, and shortest
pub one-group : (s : List ℕ) (at : ℕ) → at < length s → get_or s at 0 < 128
    → varint_at s at ≡ Ok (varint (get_or s at 0) (at + 1) true)
unfolding varint_at
one-group s at h g =
    let byte : 0 + get_or s at 0 * 1 ≡ get_or s at 0 = omega arith in
    groups-last s 5 at 1 0 (omega arith) h g
    ∙ last_fits (get_or s at 0) 1 0 (at + 1) (omega arith)
    ∙ rw byte (ap (λ (m : Bool). Ok (varint (get_or s at 0) (at + 1) m)) (marked (ltb 0 (get_or s at 0))))
  where
    marked : (t : Bool) → either t true ≡ true
    marked true = refl
    marked false = refl

-- ---- where a number ends
abbrev pub number_end : Result Varint ReadFault → ℕ
number_end r = on_varint r 0 0 (λ n next. next)

last_end : (b w v next : ℕ) → number_end (last_group b w v next) ≤ next
unfolding last_group
last_end b w v next = by-sum (leb (v + b * w) 4294967295)
  where
    by-sum : (t : Bool) → number_end
        (pick t (Ok (varint (v + b * w) next (either (ltb 0 b) (leb w 1)))) (Err IllFormed)) ≤ next
    by-sum true = omega arith
    by-sum false = omega arith

groups-end : (s : List ℕ) (k at w v : ℕ) → number_end (groups s k at w v) ≤ at + k
unfolding groups
groups-end s zero at w v = omega arith
groups-end s (suc k) at w v =
    by-test (ltb at (length s)) (ltb (get_or s at 0) 128)
    (last_group (get_or s at 0) w v (at + 1)) (last_end (get_or s at 0) w v (at + 1))
    (groups s k (at + 1) (w * 128) (v + (get_or s at 0 - 128) * w))
    (groups-end s k (at + 1) (w * 128) (v + (get_or s at 0 - 128) * w))
  where
    by-test : (t u : Bool) (a : Result Varint ReadFault) → number_end a ≤ at + 1 → (r : Result Varint ReadFault)
        → number_end r ≤ at + 1 + k
        → number_end (pick t (pick u a r) (Err CutShort)) ≤ at + suc k
    by-test true true a h r g = omega arith
    by-test true false a h r g = omega arith
    by-test false u a h r g = omega arith

-- "at most 5 bytes"
pub varint-end : (s : List ℕ) (at : ℕ) → number_end (varint_at s at) ≤ at + 5
unfolding varint_at
varint-end s at = groups-end s 5 at 1 0

-- ---- a number as an option
pub number-some : (r : Result Varint ReadFault) (n : Varint) → Some n ≡ result_ok r → r ≡ Ok n
number-some (Ok m) n e = cc
number-some (Err f) n e = clash (cc)

pub number-fault : {A : Type 0} (r : ReadFault) (a : A) (f : ℕ → ℕ → A) → a ≡ on_varint (Err r) a a f
number-fault CutShort a f = refl
number-fault IllFormed a f = refl

pub number-none : {A : Type 0} (r : Result Varint ReadFault) (a : A) (f : ℕ → ℕ → A)
    → ◌≡◌ {A = Option Varint} None (result_ok r) → a ≡ on_varint r a a f
number-none (Ok m) a f e = clash (cc)
number-none (Err r) a f e = number-fault r a f
