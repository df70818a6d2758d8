-- A list filled element by element with what a function makes of another's.
-- Assumes nothing.
use mathlib.Core.Path.{◌≡◌, refl, ap}
use mathlib.Core.List.{List, [], ◌∷◌, ◌++◌, map}
use Prim.Native.Nat.{ℕ, ◌+◌, ◌<◌}
use native.Mathlib.Numerals.{add-one}
use lib.ListN.{length, get_or, take, set}
use lib.Seq.{take-suc, take-suc-set}

module _ {A B : Type 0} (f : A → B) where
  map_snoc : (xs : List A) (x : A) → map f (xs ++ (x ∷ [])) ≡ map f xs ++ (f x ∷ [])
  map_snoc [] x = refl
  map_snoc (y ∷ ys) x = ap (λ (l : List B). f y ∷ l) (map_snoc ys x)

  -- one more
  pub mapped_next : (out : List B) (xs : List A) (i : ℕ) (v : B) (d : A) → i < length out → i < length xs
      → take i out ≡ map f (take i xs) → v ≡ f (get_or xs i d)
      → take (i + 1) (set out i v) ≡ map f (take (i + 1) xs)
  mapped_next out xs i v d h g e q =
      rw (add-one, take-suc-set out i v h, take-suc xs i d g, map_snoc (take i xs) (get_or xs i d), e, q)
