-- A number of k bytes, built from its highest byte on: one turn, and its bound. Assumes nothing.
use Prim.Native.Nat.{ℕ, suc, ◌+◌, ◌-◌, ◌*◌, ◌<◌, ◌≤◌, ◌^◌}
use mathlib.Core.Path.{◌≡◌, ap, refl, sym}
use mathlib.Core.List.{List}
use native.Mathlib.Omega.{arith}
use native.Mathlib.Nat.{pow-suc, pow-le-pow_right, zero-lt-suc}
use lib.ListN.{get_or}
use Rattle.common.specs.Bytes.{little_at, big_at}
use lib.Dec.{leb}
use mathlib.Core.Bool.{Bool, true, false}
use native.Mathlib.Numerals.{add-one}
use borrow.Author.Tests.{leb-true, leb-false, le-leb, lt-leb}

module _ (k j : ℕ) (some : 0 < j) (within : j ≤ k) where
  -- one byte more in front
  pub turn : (s : List ℕ) (at v : ℕ) → v ≡ little_at s (at + j) (k - j)
      → v * 256 + get_or s (at + (j - 1)) 0 ≡ little_at s (at + (j - 1)) (k - (j - 1))
  unfolding little_at
  turn s at v e =
      let more : k - (j - 1) ≡ suc (k - j) = omega arith in
      let next : at + (j - 1) + 1 ≡ at + j = omega arith in
      omega (arith, ap (little_at s (at + (j - 1))) more, ap (λ (a : ℕ). little_at s a (k - j)) next)

  pub grows : (v b : ℕ) → v < 256 ^ (k - j) → b < 256 → v * 256 + b < 256 ^ (k - (j - 1))
  grows v b hv hb =
      let more : k - (j - 1) ≡ suc (k - j) = omega arith in
      omega (arith, ap (λ (n : ℕ). 256 ^ n) more, pow-suc 256 (k - j))

  -- room for the byte
  pub room : (v : ℕ) → k ≤ 8 → v < 256 ^ (k - j) → v < 256 ^ 7
  room v h hv =
      let short : k - j ≤ 7 = omega arith in
      omega (arith, pow-le-pow_right {n = 256} (zero-lt-suc 255) short)

pub be-turn : (s : List ℕ) (at j : ℕ) → big_at s at (j + 1) ≡ big_at s at j * 256 + get_or s (at + j) 0
unfolding big_at
be-turn s at j = rw add-one

pub be-grows : (v b j : ℕ) → v < 256 ^ j → b < 256 → v * 256 + b < 256 ^ (j + 1)
be-grows v b j hv hb = omega (arith, ap (λ (n : ℕ). 256 ^ n) (add-one j), pow-suc 256 j)

pub be-room : (v j : ℕ) → j ≤ 7 → v < 256 ^ j → v < 256 ^ 7
be-room v j h hv = omega (arith, pow-le-pow_right {n = 256} (zero-lt-suc 255) h)

pub room-shift : (a w n : ℕ) → a ≤ n → leb w (n - a) ≡ leb (a + w) n
room-shift a w n h = by-test (leb w (n - a)) refl
  where
    by-test : (t : Bool) → leb w (n - a) ≡ t → t ≡ leb (a + w) n
    by-test true e = let l = leb-true w (n - a) e in sym (le-leb (a + w) n (omega arith))
    by-test false e = let l = leb-false w (n - a) e in sym (lt-leb (a + w) n (omega arith))
