-- What the test on a pattern says, once for both formats, and that an answer keeps the stored bits. Assumes nothing.
use Prim.Native.Nat.{◌+◌, ◌/◌, ℕ, ◌*◌, ◌%◌, ◌<◌, ◌≤◌}
use mathlib.Core.Path.{◌≡◌, refl, sym, ap, subst, ◌∙◌}
use mathlib.Core.Bool.{Bool, true, false, not}
use mathlib.Core.List.{[], ◌∷◌}
use lib.Dec.{T}
use lib.Ieee.Compare.{differs_from_itself, nan_differs}
use native.Mathlib.Omega.{arith}
use lib.Ieee.{Format, Float, nan, inf, fin, ne, is_nan, binary32, binary64, ones, hid, top, nan_bits, of_bits, to_bits}
use lib.Ieee.Bits.{nan_bits_above, nan_bits_is, to_bits-of_bits}
use borrow.Author.Tests.{lt-ltb, le-ltb}
use Rattle.row_spec.specs.declared.Field.{Field}
use Rattle.row_spec.specs.Value.{pattern, single, double}
use Rattle.row_spec.specs.Answer.{shown}
use Rattle.row_spec.specs.Page.{listed}
use Rattle.row_spec.specs.declared.Field.TheVariants.{F32, NanF32, F64, NanF64}
use Rattle.common.specs.Outcome.{pick}

module _ (f : Format) (n : ℕ) where
  pub is-nan : ones f * hid f < n % top f → nan_bits f n ≡ true
  is-nan h = nan_bits_above f n ∙ lt-ltb (ones f * hid f) (n % top f) h

  pub no_nan : n % top f ≤ ones f * hid f → nan_bits f n ≡ false
  no_nan h = nan_bits_above f n ∙ le-ltb (ones f * hid f) (n % top f) h

  pub may_read : n % top f ≤ ones f * hid f → T (not (nan_bits f n))
  may_read h = subst (λ (b : Bool). T (not b)) (sym (no_nan h)) tt

  module _ (bad : ℕ → Field) (good : Float → Field) where
    pub bad-pattern : ones f * hid f < n % top f → bad n ≡ pattern f bad good n
    unfolding pattern
    bad-pattern h = sym (ap (λ (t : Bool). pick t (bad n) (good (of_bits f n))) (is-nan h))

    pub good-pattern : n % top f ≤ ones f * hid f → good (of_bits f n) ≡ pattern f bad good n
    unfolding pattern
    good-pattern h = sym (ap (λ (t : Bool). pick t (bad n) (good (of_bits f n))) (no_nan h))

-- The answer to a pattern has exactly the stored bits: once for every format, whatever tells of its two cases what g
-- tells of bits.
pub stored-bits : {A : Type 0} (f : Format) (bits : ℕ → Field) (float : Float → Field) (of : Field → A) (g : ℕ → A)
    → ((n : ℕ) → of (bits n) ≡ g n)
    → ((x : Float) → of (float x) ≡ g (to_bits f x))
    → (n : ℕ) → n < 2 * top f → of (pattern f bits float n) ≡ g n
unfolding pattern
stored-bits f bits float of g same writes n h = by-test (nan_bits f n) refl
  where
    by-test : (t : Bool) → nan_bits f n ≡ t → of (pick t (bits n) (float (of_bits f n))) ≡ g n
    by-test true e = same n
    by-test false e =
        let number = subst (λ (b : Bool). T (not b)) (sym (sym (nan_bits_is f n) ∙ e)) tt in
        writes (of_bits f n) ∙ ap g (to_bits-of_bits f n h number)

pub single-bits : (n : ℕ) → n < 2 * top binary32 → (shown (single n)).bits ≡ n
unfolding shown
single-bits n h = stored-bits binary32 NanF32 F32 (λ x. (shown x).bits) (λ m. m) (λ m. refl) (λ x. refl) n h

pub double-bits : (n : ℕ) → n < 2 * top binary64 → (shown (double n)).bits ≡ n
unfolding shown
double-bits n h = stored-bits binary64 NanF64 F64 (λ x. (shown x).bits) (λ m. m) (λ m. refl) (λ x. refl) n h

-- the same in the three numbers of a list
pub single-listed : (n : ℕ) → n < 2 * top binary32 → listed (single n) ≡ 3 ∷ n ∷ 0 ∷ []
unfolding listed
single-listed n h = stored-bits binary32 NanF32 F32 listed (λ m. 3 ∷ m ∷ 0 ∷ []) (λ m. refl) (λ x. refl) n h

pub double-listed : (n : ℕ) → n < 2 * top binary64 → listed (double n) ≡ 4 ∷ n ∷ 0 ∷ []
unfolding listed
double-listed n h = stored-bits binary64 NanF64 F64 listed (λ m. 4 ∷ m ∷ 0 ∷ []) (λ m. refl) (λ x. refl) n h

-- ---- from a float back to its bits: x != x tells a NaN
pub may_write : (x : Float) → ne x x ≡ false → T (not (is_nan x))
unfolding is_nan
may_write nan e = absurd (let z : ◌≡◌ {A = ℕ} 0 1 = cc nan_differs in omega arith)
may_write (inf s) e = tt
may_write (fin s m k) e = tt

-- the pattern that the library writes for its one NaN
pub nan-bits : (f : Format) (x : Float) → ne x x ≡ true → to_bits f x ≡ ones f * hid f + hid f / 2
unfolding to_bits
nan-bits f x e = rw (differs_from_itself x (subst T (sym e) tt))
