-- Containers wholly below the place have no member at or above it: a page starts at container place / 256.
-- Assumes nothing.
use mathlib.Core.Path.{◌≡◌, refl, ap, ◌∙◌}
use mathlib.Core.Bool.{true}
use mathlib.Core.List.{List, [], ◌∷◌, ◌++◌, map}
use Prim.Native.Nat.{ℕ, zero, suc, ◌+◌, ◌*◌, ◌≤◌}
use native.Mathlib.Nat.{add-zero, add-suc, suc-add, add_assoc, not-suc-le-zero, le_of_suc-le-suc}
use native.Mathlib.Omega.{arith}
use borrow.Author.Tests.{lt-leb}
use lib.ListN.{length, take, drop}
use lib.Seq.{length-take-le, take-take}
use lib.Dec.{leb}
use Rattle.common.specs.Lists.{keep, rising, sum}
use Rattle.bitmap_spec.specs.Judge.{size_of, container, containers_ok, members_from}
use Rattle.bitmap_spec.specs.Ask.{at_or_above}
use Rattle.judge.specs.Post.{SliceView, viewed}
use Rattle.bitmap_laws.proofs.Cuts.{keep_append}
use Rattle.bitmap_laws.proofs.Members.{head_ok}
use Rattle.bitmap_read.proofs.Held.{ok-first, ok-rest, shifted_up, Walk}

pub above-cat : (p : ℕ) (a b : List ℕ) → at_or_above p (a ++ b) ≡ at_or_above p a ++ at_or_above p b
unfolding at_or_above
above-cat p a b = keep_append (λ x. leb p x) a b

-- nothing of a rising list is at or above what bounds it
pub above-none : (n lo : ℕ) (l : List ℕ) (p : ℕ) → rising n lo l ≡ true → n ≤ p → at_or_above p l ≡ []
unfolding at_or_above keep
above-none n lo [] p e h = refl
above-none n lo (x ∷ l) p e h =
    let o = head_ok n lo x l e in
    rw (lt-leb p x (omega arith)) (above-none n (suc x) l p o.2 h)

pub skip-one : (s : List ℕ) (k at d : ℕ) (ds : List ℕ) (p : ℕ) → containers_ok s at (d ∷ ds) ≡ true → (k + 1) * 256 ≤ p
    → at_or_above p (members_from s k at (d ∷ ds)) ≡ at_or_above p (members_from s (suc k) (at + size_of d) ds)
unfolding members_from
skip-one s k at d ds p ok h =
    above-cat p (map (λ j. k * 256 + j) (container s at d)) (members_from s (suc k) (at + size_of d) ds)
    ∙ ap (λ (l : List ℕ). l ++ at_or_above p (members_from s (suc k) (at + size_of d) ds))
    (above-none (k * 256 + 256) (k * 256) (map (λ j. k * 256 + j) (container s at d)) p
    (shifted_up s k at d (ok-first s k at d ds 0 ok)) (omega arith))

-- what is left after i containers
pub record Skipped (s : List ℕ) (k at : ℕ) (ds : List ℕ) (p i : ℕ) : Type 0 where
  pub ends : at + sum size_of (take i ds) + sum size_of (drop i ds) ≡ at + sum size_of ds
  pub sound : containers_ok s (at + sum size_of (take i ds)) (drop i ds) ≡ true
  pub is :
      at_or_above p (members_from s k at ds) ≡ at_or_above p
      (members_from s (k + i) (at + sum size_of (take i ds)) (drop i ds))

pub skip : (s : List ℕ) (k at : ℕ) (ds : List ℕ) (p i : ℕ) → containers_ok s at ds ≡ true → i ≤ length ds
    → (k + i) * 256 ≤ p → Skipped s k at ds p i
unfolding sum
skip s k at ds p zero ok h g =
    record { ends = omega arith; sound = rw (add-zero at) ok; is = rw (add-zero at, add-zero k) }
skip s k at [] p (suc i) ok h g = absurd (not-suc-le-zero h)
skip s k at (d ∷ ds) p (suc i) ok h g =
    let r = skip s (suc k) (at + size_of d) ds p i (ok-rest s k at d ds 0 ok) (le_of_suc-le-suc h) (omega arith) in
    record {
      ends = omega (arith, r.ends);
      sound = rw (← add_assoc at (size_of d) (sum size_of (take i ds))) r.sound;
      is = skip-one s k at d ds p ok (omega arith) ∙ r.is
          ∙ rw (add-suc k i, suc-add k i, add_assoc at (size_of d) (sum size_of (take i ds)));
    }

module _ (s d : List ℕ) (n start p k : ℕ) (v : SliceView s d n start (viewed s d n start)) (h : k ≤ n)
    (g : k * 256 ≤ p) where
  skipped : Skipped s 0 start (take n d) p k
  skipped =
      skip s 0 start (take n d) p k v.sound (rw (length-take-le n d (omega (arith, v.few, v.long))) h)
      (omega arith)

  pub skip-walk : Walk s d n (start + sum size_of (take k d)) k
  skip-walk = record {
    upto = h;
    long = omega (arith, v.few, v.long);
    ends = rw (take-take k n d h) at (skipped.ends ∙ v.ends);
    sound = rw (take-take k n d h) at skipped.sound;
  }

  pub skip_is :
      at_or_above p (viewed s d n start) ≡ at_or_above p
      (members_from s k (start + sum size_of (take k d)) (drop k (take n d)))
  unfolding viewed
  skip_is =
      let z : 0 + k ≡ k = omega arith in
      rw (take-take k n d h, z) at skipped.is
