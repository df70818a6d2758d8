-- Outcomes: what was found was found at each step; no refusal is 0, by one law for each form of a definition.
-- Assumes nothing.
use mathlib.Core.Path.{◌≡◌, refl}
use mathlib.Core.Bool.{Bool, true, false}
use Prim.Native.Nat.{ℕ, suc}
use native.Mathlib.Omega.{arith}
use Rattle.common.specs.Outcome.{pick, Outcome, refused, found, then, need, status, Numbered}

-- different constructors are not equal
pub clash : {A : Type 0} → ◌≡◌ {A = ℕ} 0 1 → A
clash z = absurd (let k : ◌≡◌ {A = ℕ} 0 1 = z in omega arith)

pub same-found : {A : Type 0} {a b : A} → found a ≡ found b → a ≡ b
same-found e = cc

pub then_found : {A B : Type 0} (o : Outcome A) (f : A → Outcome B) (b : B) → then o f ≡ found b
    → (a : A) × ((o ≡ found a) × (f a ≡ found b))
then_found (refused n) f b e = clash (cc)
then_found (found a) f b e = (a, (refl, e))

-- ---- no refusal is 0
pub found-numbered : {A : Type 0} (a : A) → Numbered (found a)
found-numbered a e = clash (cc)

pub refused-numbered : {A : Type 0} (n : ℕ) → Numbered {A = A} (refused (suc n))
refused-numbered n e = let z : suc n ≡ 0 = cc in omega arith

pub need-numbered : {A : Type 0} (t : Bool) (n : ℕ) (o : Outcome A) → Numbered o → Numbered (need t (suc n) o)
unfolding need
need-numbered true n o h = h
need-numbered false n o h = refused-numbered n

pub pick-numbered : {A : Type 0} (t : Bool) (a b : Outcome A) → Numbered a → Numbered b → Numbered (pick t a b)
pick-numbered true a b h g = h
pick-numbered false a b h g = g

pub then-numbered : {A B : Type 0} (o : Outcome A) (f : A → Outcome B) → Numbered o → ((a : A) → Numbered (f a))
    → Numbered (then o f)
then-numbered (refused n) f h g e = h (let z : n ≡ 0 = cc in rw z)
then-numbered (found a) f h g e = g a e

-- what was found, handed on
pub told-numbered : {A B : Type 0} (o : Outcome A) (f : A → B) → Numbered o → Numbered (then o (λ a. found (f a)))
told-numbered o f h = then-numbered o (λ a. found (f a)) h (λ a. found-numbered (f a))

-- where a call returns 0, something was found
pub zero-found : {A : Type 0} (o : Outcome A) → Numbered o → status o ≡ 0 → (a : A) × (o ≡ found a)
zero-found (refused n) h e = absurd (h (let z : n ≡ 0 = e in rw z))
zero-found (found a) h e = (a, refl)
