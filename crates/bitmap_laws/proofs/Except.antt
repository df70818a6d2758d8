-- The exceptions that a test picks out add their parts to just the values that pass it.
-- Assumes nothing.
use mathlib.Core.Path.{◌≡◌, refl, sym, ◌∙◌}
use mathlib.Core.Logic.{⊎_elim}
use mathlib.Core.Bool.{Bool, true, false}
use mathlib.Core.List.{List, [], ◌∷◌, ◌++◌}
use Prim.Native.Nat.{ℕ, zero, suc, ◌+◌, ◌^◌, ◌≤◌, ◌<◌}
use native.Mathlib.Nat.{zero-add, add-zero, add_assoc, eq-or-lt_of_le, add_comm}
use native.Mathlib.Nat
use native.Mathlib.Omega.{arith}
use borrow.Author.Tests.{eq-eqb, ne_eqb}
use lib.Dec.{eqb}
use lib.ListN.{length, get_or, take}
use lib.Seq.{take-suc, take-length}
use lib.Count.{leading_length}
use lib.Pow.{pow_mono}
use Rattle.common.specs.Lists.{from, keep}
use Rattle.common.specs.Outcome.{pick}
use Rattle.bitmap_spec.specs.Form.{width}
use Rattle.bitmap_laws.proofs.Back.{part_of}

unfoldable pub part_sum : List ℕ → (ℕ → ℕ) → ℕ → ℕ
part_sum [] h i = 0
part_sum (x ∷ xs) h i = pick (eqb x i) (h x) 0 + part_sum xs h i

part_sum-snoc : (l : List ℕ) (y : ℕ) (h : ℕ → ℕ) (i : ℕ) → part_sum (l ++ (y ∷ [])) h i ≡ part_sum l h i + pick (eqb y i) (h y) 0
unfolding part_sum
part_sum-snoc [] y h i = add_comm (pick (eqb y i) (h y) 0) 0
part_sum-snoc (x ∷ xs) y h i = rw (part_sum-snoc xs y h i) (sym (add_assoc (pick (eqb x i) (h x) 0) (part_sum xs h i) (pick (eqb y i) (h y) 0)))

part-take : (offs : List ℕ) (h : ℕ → ℕ) (e i : ℕ) → e ≤ length offs → part_of offs (λ j. h (get_or offs j 0)) e i ≡ part_sum (take e offs) h i
unfolding part_of part_sum
part-take offs h zero i l = refl
part-take offs h (suc e) i l = rw (part-take offs h e i (omega arith), take-suc offs e 0 (omega arith)) (sym (part_sum-snoc (take e offs) (get_or offs e 0) h i))

low : (F : ℕ → Bool) (h : ℕ → ℕ) (k n i : ℕ) → i < k → part_sum (keep F (from k n)) h i ≡ 0
unfolding part_sum keep from
low F h k zero i l = refl
low F h k (suc n) i l = go (F k) (low F h (suc k) n i (omega arith))
  where
    go : (b : Bool) → part_sum (keep F (from (suc k) n)) h i ≡ 0 → part_sum (pick b (k ∷ keep F (from (suc k) n)) (keep F (from (suc k) n))) h i ≡ 0
    go true ih = rw (ne_eqb k i (λ q. omega arith), ih)
    go false ih = ih

part-keep : (F : ℕ → Bool) (h : ℕ → ℕ) (k n i : ℕ) → k ≤ i → i < k + n → part_sum (keep F (from k n)) h i ≡ pick (F i) (h i) 0
unfolding part_sum keep from
part-keep F h k zero i l g = absurd (omega arith)
part-keep F h k (suc n) i l g = ⊎_elim here (λ m. later m (part-keep F h (suc k) n i m (omega arith))) (eq-or-lt_of_le l)
  where
    at : (b : Bool) → part_sum (pick b (k ∷ keep F (from (suc k) n)) (keep F (from (suc k) n))) h k ≡ pick b (h k) 0
    at true = rw (eq-eqb k k refl, low F h (suc k) n k (omega arith)) (add-zero (h k))
    at false = low F h (suc k) n k (omega arith)

    here : k ≡ i → part_sum (pick (F k) (k ∷ keep F (from (suc k) n)) (keep F (from (suc k) n))) h i ≡ pick (F i) (h i) 0
    here e = rw (← e) (at (F k))

    past : (b : Bool) → k < i → part_sum (pick b (k ∷ keep F (from (suc k) n)) (keep F (from (suc k) n))) h i ≡ part_sum (keep F (from (suc k) n)) h i
    past true m = rw (ne_eqb k i (λ q. omega arith)) (zero-add (part_sum (keep F (from (suc k) n)) h i))
    past false m = refl

    later : k < i → part_sum (keep F (from (suc k) n)) h i ≡ pick (F i) (h i) 0 → part_sum (pick (F k) (k ∷ keep F (from (suc k) n)) (keep F (from (suc k) n))) h i ≡ pick (F i) (h i) 0
    later m ih = past (F k) m ∙ ih

-- together: what the exceptions kept from 0 to n add to value i
pub part-of-kept : (F : ℕ → Bool) (h : ℕ → ℕ) (n i : ℕ) → i < n
    → part_of (keep F (from 0 n)) (λ j. h (get_or (keep F (from 0 n)) j 0)) (length (keep F (from 0 n))) i ≡ pick (F i) (h i) 0
part-of-kept F h n i l =
    part-take (keep F (from 0 n)) h (length (keep F (from 0 n))) i (omega arith)
    ∙ rw (take-length (keep F (from 0 n))) (part-keep F h 0 n i (omega arith) (omega arith))

-- a value that is no wider than b is below 2 ^ b
pub narrow : (v b : ℕ) → v < 256 → width v ≤ b → v < 2 ^ b
unfolding width
narrow v b h l =
    let t = leading_length 8 v h in
    native.Mathlib.Nat.lt_of_lt_of_le t.2 (pow_mono {i = t.0} {j = b} (omega (arith, t.1)))
