-- A set cut into containers, and joined again.
-- Assumes nothing.
use mathlib.Core.Path.{◌≡◌, refl, sym, ap, ap₂, ◌∙◌}
use mathlib.Core.Logic.{⊎_elim}
use mathlib.Core.Bool.{Bool, true, false}
use mathlib.Core.List.{List, [], ◌∷◌, ◌++◌, map}
use Prim.Native.Nat.{ℕ, zero, suc, ◌+◌, ◌*◌}
use native.Mathlib.Nat.{suc-add, add-suc, add-zero, zero-add, zero-mul}
use native.Mathlib.Omega.{arith}
use lib.ListN.{length, length-map}
use Rattle.common.specs.Lists.{keep, from, mem, rising}
use Rattle.common.specs.Outcome.{pick}
use Rattle.bitmap_spec.proofs.Window.{below_or}
use Rattle.bitmap_spec.specs.Form.{cut, count_of}
use Rattle.bitmap_spec.specs.Sets.{IsSet}
use Rattle.bitmap_laws.proofs.Members.{ext, rising-keep, mem-keep, mem-high, mem-beyond}
use Rattle.bitmap_laws.proofs.Rise.{weaker, count-bound}

-- the members of containers k, k + 1, ..
unfoldable pub joined : ℕ → List (List ℕ) → List ℕ
joined k [] = []
joined k (c ∷ cs) = map (λ j. k * 256 + j) c ++ joined (suc k) cs

pub from-cat : (k a c : ℕ) → from k (a + c) ≡ from k a ++ from (k + a) c
unfolding from
from-cat k zero c = rw (zero-add c, add-zero k)
from-cat k (suc a) c = rw (suc-add a c, add-suc k a) (ap (λ (l : List ℕ). k ∷ l) (from-cat (suc k) a c ∙ rw (suc-add k a)))

pub length_from : (k n : ℕ) → length (from k n) ≡ n
unfolding from
length_from k zero = refl
length_from k (suc n) = ap suc (length_from (suc k) n)

-- as many containers as are counted
pub length-cuts : (l : List ℕ) → length (map (cut l) (from 0 (count_of l))) ≡ count_of l
length-cuts l = length-map (from 0 (count_of l)) (cut l) ∙ length_from 0 (count_of l)

pub keep_append : (f : ℕ → Bool) (xs ys : List ℕ) → keep f (xs ++ ys) ≡ keep f xs ++ keep f ys
unfolding keep
keep_append f [] ys = refl
keep_append f (x ∷ xs) ys = rw (keep_append f xs ys) (go (f x))
  where
    go : (b : Bool) → pick b (x ∷ (keep f xs ++ keep f ys)) (keep f xs ++ keep f ys) ≡ pick b (x ∷ keep f xs) (keep f xs) ++ keep f ys
    go true = refl
    go false = refl

-- what is kept of a run, shifted
keep-shift : (f : ℕ → Bool) (c a n : ℕ) → map (λ j. c + j) (keep (λ j. f (c + j)) (from a n)) ≡ keep f (from (c + a) n)
unfolding keep from
keep-shift f c a zero = refl
keep-shift f c a (suc n) = go (f (c + a)) (rw (add-suc c a) at (keep-shift f c (suc a) n))
  where
    go : (b : Bool) → map (λ j. c + j) (keep (λ j. f (c + j)) (from (suc a) n)) ≡ keep f (from (suc (c + a)) n)
        → map (λ j. c + j) (pick b (a ∷ keep (λ j. f (c + j)) (from (suc a) n)) (keep (λ j. f (c + j)) (from (suc a) n))) ≡ pick b ((c + a) ∷ keep f (from (suc (c + a)) n)) (keep f (from (suc (c + a)) n))
    go true ih = ap (λ (l : List ℕ). (c + a) ∷ l) ih
    go false ih = ih

pub from_cons : (k n : ℕ) → from k (suc n) ≡ k ∷ from (suc k) n
unfolding from
from_cons k n = refl

pub from-none : (k : ℕ) → from k 0 ≡ []
unfolding from
from-none k = refl

keep-none : (f : ℕ → Bool) → keep f [] ≡ []
unfolding keep
keep-none f = refl

pub cut-shift : (l : List ℕ) (k : ℕ) → map (λ j. k * 256 + j) (cut l k) ≡ keep (λ x. mem x l) (from (k * 256) 256)
unfolding cut
cut-shift l k = keep-shift (λ x. mem x l) (k * 256) 0 256 ∙ ap (λ (z : ℕ). keep (λ x. mem x l) (from z 256)) (add-zero (k * 256))

pub two_runs : (f : ℕ → Bool) (k a c : ℕ) → keep f (from k (a + c)) ≡ keep f (from k a) ++ keep f (from (k + a) c)
two_runs f k a c = ap (λ (l : List ℕ). keep f l) (from-cat k a c) ∙ keep_append f (from k a) (from (k + a) c)

pub joined-cut : (l : List ℕ) (k n : ℕ) → joined k (map (cut l) (from k n)) ≡ keep (λ x. mem x l) (from (k * 256) (n * 256))
unfolding joined
joined-cut l k zero = rw (from-none k, zero-mul, from-none (k * 256), keep-none)
joined-cut l k (suc n) =
    let e : 256 + n * 256 ≡ suc n * 256 = omega arith in
    let g : k * 256 + 256 ≡ suc k * 256 = omega arith in
    rw (from_cons k n)
    (ap₂ (λ (x y : List ℕ). x ++ y) (cut-shift l k) (joined-cut l (suc k) n ∙ ap (λ (z : ℕ). keep (λ x. mem x l) (from z (n * 256))) (sym g))
    ∙ sym (two_runs (λ x. mem x l) (k * 256) 256 (n * 256)) ∙ ap (λ (z : ℕ). keep (λ x. mem x l) (from (k * 256) z)) e)

-- a set is what its containers hold
pub joined-form : (l : List ℕ) → IsSet l → joined 0 (map (cut l) (from 0 (count_of l))) ≡ l
joined-form l e =
    joined-cut l 0 (count_of l)
    ∙ ext 2097152 0 (keep (λ x. mem x l) (from 0 (count_of l * 256))) l
    (weaker 2097152 (count_of l * 256) 0 0 _ (omega arith) (omega (arith, count-bound l e)) up) e same
  where
    up : rising (count_of l * 256) 0 (keep (λ x. mem x l) (from 0 (count_of l * 256))) ≡ true
    up = rising-keep (λ x. mem x l) (count_of l * 256) 0 (count_of l * 256) (omega arith)

    same : (z : ℕ) → mem z (keep (λ x. mem x l) (from 0 (count_of l * 256))) ≡ mem z l
    same z =
        ⊎_elim (λ h. mem-keep (λ x. mem x l) 0 (count_of l * 256) z (omega arith) (omega arith))
        (λ h. mem-high (count_of l * 256) 0 _ z up h ∙ sym (mem-beyond l z h)) (below_or z (count_of l * 256))

-- each container rises, below 256
unfoldable pub AllUp : List (List ℕ) → Type 0
AllUp [] = Unit {0}
AllUp (c ∷ cs) = (rising 256 0 c ≡ true) × AllUp cs

pub cut_up : (l : List ℕ) (k : ℕ) → rising 256 0 (cut l k) ≡ true
unfolding cut
cut_up l k = rising-keep (λ j. mem (k * 256 + j) l) 256 0 256 (omega arith)

pub cuts-up : (l ks : List ℕ) → AllUp (map (cut l) ks)
unfolding AllUp
cuts-up l [] = tt
cuts-up l (k ∷ ks) = (cut_up l k, cuts-up l ks)
