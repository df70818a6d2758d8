-- Descriptors of which none is over 32: the largest is not.
-- Assumes nothing.
use mathlib.Core.Path.{◌≡◌, refl}
use mathlib.Core.Bool.{true, false}
use mathlib.Core.Logic.{⊎_elim}
use mathlib.Core.List.{List, [], ◌∷◌}
use Prim.Native.Nat.{ℕ, ◌-◌, ◌≤◌, ◌<◌}
use native.Mathlib.Omega.{arith}
use borrow.Author.Tests.{le-leb, lt-leb, eq-eqb, ne_eqb}
use lib.Dec.{leb, ltb}
use lib.ListN.{length, get_or}
use Rattle.common.specs.Lists.{every}
use Rattle.bitmap_spec.proofs.Window.{below_or}
use Rattle.bitmap_spec.specs.Form.{largest}
use Rattle.form_check.specs.Heads.{is_settled}

every-le : (n : ℕ) (ds : List ℕ) → largest ds ≤ n → every (λ d. leb d n) ds ≡ true
unfolding every largest
every-le n [] h = refl
every-le n (d ∷ ds) h = rw (le-leb d n (omega arith)) (every-le n ds (omega arith))

every-not : (n : ℕ) (ds : List ℕ) → n < largest ds → every (λ d. leb d n) ds ≡ false
unfolding every largest
every-not n [] h = absurd (omega arith)
every-not n (d ∷ ds) h =
    ⊎_elim (λ g. rw (lt-leb d n g))
    (λ g. rw (le-leb d n g) (every-not n ds (omega arith))) (below_or n d)

module _ (ds : List ℕ) where
  pub settled-not : 32 < largest ds → false ≡ is_settled ds
  unfolding is_settled
  settled-not h = rw (every-not 32 ds h)

  module _ (few : largest ds ≤ 32) where
    pub settled-none : length ds ≡ 0 → true ≡ is_settled ds
    unfolding is_settled
    settled-none e = rw (every-le 32 ds few, eq-eqb (length ds) 0 e)

    pub settled-last : (length ds ≡ 0 → ⊥) → ltb 0 (get_or ds (length ds - 1) 0) ≡ is_settled ds
    unfolding is_settled
    settled-last e = rw (every-le 32 ds few, ne_eqb (length ds) 0 e)
