-- A bound of the form by the number of containers: a chunk whose descriptors need six bits has an empty container,
-- so it never adds more than 163 bytes to 32 for each container.
-- Assumes nothing.
use mathlib.Core.Path.{◌≡◌, refl, ap, ◌∙◌}
use mathlib.Core.Logic.{◌⊎◌, inl, inr, ⊎_elim}
use mathlib.Core.Bool.{true}
use mathlib.Core.List.{List, [], ◌∷◌, map}
use Prim.Native.Nat.{ℕ, zero, suc, ◌+◌, ◌-◌, ◌*◌, ◌/◌, ◌≤◌, ◌<◌, min}
use native.Mathlib.Nat.{zero-add}
use native.Mathlib.Omega.{arith}
use borrow.Author.Tests.{leb-true}
use lib.Count.{count_leading_zeros}
use lib.Dec.{leb}
use lib.ListN.{length, length-append, length-drop, take, drop}
use lib.Seq.{length-take-le}
use Rattle.common.specs.Lists.{from, every, sum}
use Rattle.bitmap_spec.specs.Form.{form, cut, count_of, descriptor_of, width, largest, least, smallest, write_chunk}
use Rattle.bitmap_spec.specs.Form.{write_chunks}
use Rattle.bitmap_spec.specs.Judge.{size_of}
use Rattle.bitmap_spec.specs.Sets.{IsSet}
use Rattle.bitmap_spec.proofs.Window.{below_or}
use Rattle.bitmap_laws.proofs.Length.{chunk-most, chunk-size, size-le, sum-le, descs_of, length-descs}
use Rattle.bitmap_laws.proofs.Length.{length-form}
use Rattle.bitmap_laws.proofs.Rise.{count-bound}
use Rattle.bitmap_laws.proofs.Values.{AllLe, every-at}
use Rattle.bitmap_laws.proofs.Written.{all_take, all_drop}

-- ---- five bits
narrow-five : every (λ v. leb (width v) 5) (from 0 32) ≡ true
unfolding every from width count_leading_zeros
narrow-five = refl

width-five : (v : ℕ) → v < 32 → width v ≤ 5
width-five v h = leb-true (width v) 5 (rw (zero-add v) at (every-at (λ v. leb (width v) 5) 0 32 v narrow-five h))

widest-five : (vs : List ℕ) → AllLe 31 vs → largest (map width vs) ≤ 5
unfolding largest AllLe
widest-five [] a = omega arith
widest-five (v ∷ vs) a = omega (arith, width-five v (omega (arith, a.0)), widest-five vs a.1)

less_one : (m : ℕ) (ds : List ℕ) → 0 < m → AllLe 32 ds → AllLe 31 (map (λ d. d - m) ds)
unfolding AllLe
less_one m [] h a = tt
less_one m (d ∷ ds) h a = (omega (arith, a.0), less_one m ds h a.1)

more_room : (ds : List ℕ) → AllLe 32 ds → AllLe 63 ds
unfolding AllLe
more_room [] a = tt
more_room (d ∷ ds) a = (omega (arith, a.0), more_room ds a.1)

-- ---- an empty container takes no bytes
size_none : size_of 0 ≡ 0
unfolding size_of
size_none = refl

with-zero : (m : ℕ) (xs : List ℕ) → smallest m xs ≡ 0 → (m ≡ 0) ⊎ (sum size_of xs + 32 ≤ 32 * length xs)
unfolding smallest sum
with-zero m [] e = inl e
with-zero m (y ∷ ys) e = ⊎_elim
    (λ z. ⊎_elim (λ p. inr
    (let q : y ≡ 0 = omega arith in let s : size_of y ≡ 0 = ap size_of q ∙ size_none in omega (arith, s, sum-le ys)))
    (λ p. inl (omega arith)) (below_or 0 m))
    (λ z. inr (omega (arith, z, size-le y))) (with-zero (min m y) ys e)

least_zero : (ds : List ℕ) → 0 < length ds → least ds ≡ 0 → sum size_of ds + 32 ≤ 32 * length ds
unfolding least sum
least_zero [] h e = absurd (omega arith)
least_zero (x ∷ xs) h e =
    ⊎_elim (λ z. let s : size_of x ≡ 0 = ap size_of z ∙ size_none in omega (arith, s, sum-le xs))
    (λ z. omega (arith, z, size-le x)) (with-zero x xs e)

-- ---- a chunk and its containers
chunk-tight : (ds : List ℕ) → AllLe 32 ds → 0 < length ds → length ds ≤ 256
    → length (write_chunk ds) + sum size_of ds ≤ 163 + 32 * length ds
chunk-tight ds a p h = ⊎_elim
    (λ m. omega
    (arith, chunk-most ds h, widest-five (map (λ d. d - least ds) ds) (less_one (least ds) ds m a), sum-le ds))
    (λ m. omega (arith, chunk-size ds (more_room ds a) h, least_zero ds p (omega arith))) (below_or 0 (least ds))

sum-split : (k : ℕ) (l : List ℕ) → sum size_of l ≡ sum size_of (take k l) + sum size_of (drop k l)
unfolding sum
sum-split zero l = omega arith
sum-split (suc k) [] = omega arith
sum-split (suc k) (x ∷ xs) = omega (arith, sum-split k xs)

-- all chunks and containers
pub chunks-tight : (k : ℕ) (ds : List ℕ) → AllLe 32 ds → k * 256 ≤ length ds → length ds < k * 256 + 256
    → length (write_chunks k ds) + sum size_of ds ≤ 163 * ((length ds + 255) / 256) + 32 * length ds
unfolding write_chunks
chunks-tight zero [] a p q = omega (arith, sum-le [])
chunks-tight zero (d ∷ ds) a p q = omega (arith, chunk-tight (d ∷ ds) a (omega arith) (omega arith))
chunks-tight (suc k) ds a p q =
    let t : length (take 256 ds) ≡ 256 = length-take-le 256 ds (omega arith) in
    rw (length-append (write_chunk (take 256 ds)) (write_chunks k (drop 256 ds)))
    (omega (
      arith,
      t,
      sum-split 256 ds,
      chunk-tight (take 256 ds) (all_take 32 256 ds a) (omega arith) (omega arith),
      length-drop 256 ds,
      chunks-tight k (drop 256 ds) (all_drop 32 256 ds a) (rw (length-drop 256 ds) (omega arith))
          (rw (length-drop 256 ds) (omega arith)),
    ))

-- a written descriptor is at most 32
pub descs-32 : (cs : List (List ℕ)) → AllLe 32 (map descriptor_of cs)
unfolding AllLe descriptor_of
descs-32 [] = tt
descs-32 (c ∷ cs) = (omega arith, descs-32 cs)

-- no written form is longer than 267,366 bytes
pub form-tight : (l : List ℕ) → IsSet l → length (form l) ≤ 267366
unfolding descs_of
form-tight l s =
    let n = length-descs l in
    let c = count-bound l s in
    rw (length-form l)
    (omega (arith, chunks-tight (count_of l / 256) (descs_of l) (descs-of l) (rw n (omega arith)) (rw n (omega arith))))
  where
    descs-of : (l : List ℕ) → AllLe 32 (descs_of l)
    descs-of l = descs-32 (map (cut l) (from 0 (count_of l)))
