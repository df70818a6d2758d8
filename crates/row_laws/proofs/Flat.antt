-- Lists one after the other: where all have one length, an element's place is reckoned from its list's number and its
-- place there.
-- Assumes nothing.
use mathlib.Core.Path.{◌≡◌, refl, sym}
use mathlib.Core.List.{List, [], ◌∷◌, ◌++◌, flatten, append_assoc}
use Prim.Native.Nat.{ℕ, zero, suc, ◌+◌, ◌*◌, ◌<◌}
use native.Mathlib.Nat.{zero-add, zero-mul, suc-mul, not-suc-le-zero, le_of_suc-le-suc}
use native.Mathlib.Omega.{arith}
use lib.ListN.{length, get_or, length-append, get_or-append}
use lib.Seq.{get_or-append-add}

module _ {A : Type 0} where
  pub flat_append : (a b : List (List A)) → flatten (a ++ b) ≡ flatten a ++ flatten b
  unfolding flatten
  flat_append [] b = refl
  flat_append (x ∷ a) b = rw (flat_append a b, append_assoc x (flatten a) (flatten b))

  -- each of the lists has w elements
  abbrev pub Wide : ℕ → List (List A) → Type 0
  Wide w rs = (i : ℕ) → i < length rs → length (get_or rs i []) ≡ w

  -- the lists after the first
  tail-wide : (w : ℕ) (x : List A) (rs : List (List A)) → Wide w (x ∷ rs) → Wide w rs
  tail-wide w x rs h i l = h (suc i) (omega arith)

  pub flat-length : (w : ℕ) (rs : List (List A)) → Wide w rs → length (flatten rs) ≡ length rs * w
  unfolding flatten
  flat-length w [] h = sym (zero-mul w)
  flat-length w (x ∷ rs) h =
      let one : length x ≡ w = h 0 (omega arith) in
      let rest = flat-length w rs (tail-wide w x rs h) in
      rw (length-append x (flatten rs), one, rest, suc-mul (length rs) w) (omega arith)

  pub flat-at : (w : ℕ) (d : A) (rs : List (List A)) → Wide w rs → (k c : ℕ) → k < length rs → c < w
      → get_or (flatten rs) (k * w + c) d ≡ get_or (get_or rs k []) c d
  unfolding flatten
  flat-at w d [] h k c less l = absurd (not-suc-le-zero less)
  flat-at w d (x ∷ rs) h zero c less l =
      let one : length x ≡ w = h 0 less in
      rw (zero-mul w, zero-add c) (get_or-append x (flatten rs) d c (omega arith))
  flat-at w d (x ∷ rs) h (suc k) c less l =
      let one : length x ≡ w = h 0 (omega arith) in
      let place : suc k * w + c ≡ length x + (k * w + c) = rw (suc-mul k w, one) (omega arith) in
      rw (place, get_or-append-add x (flatten rs) (k * w + c) d)
      (flat-at w d rs (tail-wide w x rs h) k c (le_of_suc-le-suc less) l)
