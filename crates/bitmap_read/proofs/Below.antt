-- How many members lie below a position, container by container.
-- Assumes nothing.
use mathlib.Core.Path.{◌≡◌, refl, sym, ap, ap₂, ◌∙◌}
use mathlib.Core.Logic.{⊎_elim}
use mathlib.Core.Bool.{Bool, true, false}
use mathlib.Core.List.{List, [], ◌∷◌, ◌++◌, map}
use Prim.Native.Nat.{ℕ, suc, ◌+◌, ◌*◌, ◌/◌, ◌%◌, ◌≤◌, ◌<◌}
use native.Mathlib.Nat.{add-zero}
use native.Mathlib.Omega.{arith}
use borrow.Author.Tests.{lt-ltb, le-ltb}
use lib.ListN.{length, length-append, length-map, get_or, take, drop}
use lib.Dec.{ltb}
use native.Mathlib.Numerals.{add-one}
use Rattle.common.specs.Outcome.{pick}
use Rattle.common.specs.Lists.{keep, rising}
use Rattle.bitmap_spec.specs.Judge.{size_of, container, containers_ok, members_from}
use Rattle.bitmap_spec.specs.Ask.{below}
use Rattle.judge.specs.Post.{viewed}
use Rattle.bitmap_spec.proofs.Window.{below_or}
use Rattle.bitmap_laws.proofs.Cuts.{keep_append}
use Rattle.bitmap_laws.proofs.Members.{head_ok}
use Rattle.bitmap_laws.proofs.Accept.{members-up}
use Rattle.judge.proofs.Walking.{rest-none}
use Rattle.bitmap_read.proofs.Containers.{few}
use Rattle.bitmap_read.proofs.Held.{ok-first, ok-rest, shifted_up, Walk, walk-cons, walk-ok}
use Rattle.bitmap_read.proofs.Held.{walk-room, walk-next}

pub below-cat : (x : ℕ) (a b : List ℕ) → below x (a ++ b) ≡ below x a + below x b
unfolding below
below-cat x a b = rw (keep_append (λ y. ltb y x) a b) (length-append (keep (λ y. ltb y x) a) (keep (λ y. ltb y x) b))

-- all members of a rising list are below what bounds it, and none below where it starts
pub below_all : (n lo : ℕ) (l : List ℕ) (x : ℕ) → rising n lo l ≡ true → n ≤ x → below x l ≡ length l
unfolding below keep
below_all n lo [] x e h = refl
below_all n lo (y ∷ l) x e h =
    let o = head_ok n lo y l e in
    rw (lt-ltb y x (omega arith)) (ap suc (below_all n (suc y) l x o.2 h))

pub below_none : (n lo : ℕ) (l : List ℕ) (x : ℕ) → rising n lo l ≡ true → x ≤ lo → below x l ≡ 0
unfolding below keep
below_none n lo [] x e h = refl
below_none n lo (y ∷ l) x e h =
    let o = head_ok n lo y l e in
    rw (le-ltb y x (omega arith)) (below_none n (suc y) l x o.2 (omega arith))

ltb-shift : (m a b : ℕ) → ltb (m + a) (m + b) ≡ ltb a b
ltb-shift m a b =
    ⊎_elim (λ l. lt-ltb (m + a) (m + b) (omega arith) ∙ sym (lt-ltb a b l))
    (λ l. le-ltb (m + a) (m + b) (omega arith) ∙ sym (le-ltb a b l)) (below_or a b)

below-shift : (m j : ℕ) (c : List ℕ) → below (m + j) (map (λ i. m + i) c) ≡ below j c
unfolding below keep
below-shift m j [] = refl
below-shift m j (y ∷ c) = rw (ltb-shift m y j) (go (ltb y j) (below-shift m j c))
  where
    go : (t : Bool) → length (keep (λ z. ltb z (m + j)) (map (λ i. m + i) c)) ≡ length (keep (λ z. ltb z j) c)
        → length
        (pick t ((m + y) ∷ keep (λ z. ltb z (m + j)) (map (λ i. m + i) c))
        (keep (λ z. ltb z (m + j)) (map (λ i. m + i) c)))
        ≡ length (pick t (y ∷ keep (λ z. ltb z j) c) (keep (λ z. ltb z j) c))
    go true ih = ap suc ih
    go false ih = ih

module _ (s : List ℕ) (k at d : ℕ) (ds : List ℕ) (x : ℕ) (ok : containers_ok s at (d ∷ ds) ≡ true) where
  -- a container before the position's own is counted whole
  pub below-before : k < x / 256
      → below x (members_from s k at (d ∷ ds))
      ≡ length (container s at d) + below x (members_from s (suc k) (at + size_of d) ds)
  unfolding members_from
  below-before h =
      below-cat x (map (λ j. k * 256 + j) (container s at d)) (members_from s (suc k) (at + size_of d) ds)
      ∙ ap (λ (z : ℕ). z + below x (members_from s (suc k) (at + size_of d) ds))
      (below_all (k * 256 + 256) (k * 256) (map (λ j. k * 256 + j) (container s at d)) x
      (shifted_up s k at d (ok-first s k at d ds x ok)) (omega arith)
      ∙ length-map (container s at d) (λ j. k * 256 + j))

  -- in its own, those below it; after it, none
  pub below-own : k ≡ x / 256 → below x (members_from s k at (d ∷ ds)) ≡ below (x % 256) (container s at d)
  unfolding members_from
  below-own e =
      let q : k * 256 + x % 256 ≡ x = omega arith in
      below-cat x (map (λ j. k * 256 + j) (container s at d)) (members_from s (suc k) (at + size_of d) ds)
      ∙ ap₂ (λ (y z : ℕ). y + z)
      (ap (λ (z : ℕ). below z (map (λ j. k * 256 + j) (container s at d))) (sym q) ∙ below-shift (k * 256) (x % 256)
      (container s at d))
      (below_none ((suc k + length ds) * 256) (suc k * 256) (members_from s (suc k) (at + size_of d) ds) x
      (members-up s (suc k) (at + size_of d) ds (ok-rest s k at d ds x ok)) (omega arith))
      ∙ add-zero (below (x % 256) (container s at d))

pub below-past : (s : List ℕ) (k at x : ℕ) → below x (members_from s k at []) ≡ 0
unfolding members_from below keep
below-past s k at x = refl

-- as many below as there are members at most
pub below-le : (x : ℕ) (l : List ℕ) → below x l ≤ length l
unfolding below keep
below-le x [] = omega arith
below-le x (y ∷ l) = go (ltb y x) (below-le x l)
  where
    go : (t : Bool) → length (keep (λ z. ltb z x) l) ≤ length l
        → length (pick t (y ∷ keep (λ z. ltb z x) l) (keep (λ z. ltb z x) l)) ≤ suc (length l)
    go true ih = omega arith
    go false ih = omega arith

-- ---- counting along a walk: the members so far and those of the containers that are left
pub record Counting (s d : List ℕ) (n start x at sofar i : ℕ) : Type 0 where
  pub walk : Walk s d n at i
  pub before : i ≤ x / 256
  pub small : sofar ≤ i * 256
  pub is : sofar + below x (members_from s i at (drop i (take n d))) ≡ below x (viewed s d n start)

module _ (s d : List ℕ) (n start x at sofar i : ℕ) (c : Counting s d n start x at sofar i) where
  pub counted-all : n ≤ i → sofar ≡ below x (viewed s d n start)
  counted-all h =
      omega (
        arith,
        c.is,
        ap (λ (ds : List ℕ). below x (members_from s i at ds)) (rest-none d n i c.walk.long h),
        below-past s i at x,
      )

  module _ (more : i < n) where
    rest :
        below x (members_from s i at (drop i (take n d))) ≡ below x
        (members_from s i at (get_or d i 0 ∷ drop (i + 1) (take n d)))
    rest = ap (λ (ds : List ℕ). below x (members_from s i at ds)) (walk-cons s d n at i c.walk more)

    pub counted-own : (r : ℕ) → i ≡ x / 256 → r ≡ below (x % 256) (container s at (get_or d i 0))
        → sofar + r ≡ below x (viewed s d n start)
    counted-own r e q =
        omega (
          arith,
          c.is,
          rest,
          q,
          below-own s i at (get_or d i 0) (drop (i + 1) (take n d)) x (walk-ok s d n at i c.walk more) e,
        )

    pub counted_next : (m size : ℕ) → (i ≡ x / 256 → ⊥) → m ≡ length (container s at (get_or d i 0))
        → size ≡ size_of (get_or d i 0) → Counting s d n start x (at + size) (sofar + m) (i + 1)
    counted_next m size e q z =
        let l : i < x / 256 = omega (arith, c.before) in
        let b = below-before s i at (get_or d i 0) (drop (i + 1) (take n d)) x (walk-ok s d n at i c.walk more) l in
        record {
          walk = walk-next s d n at i c.walk more size z;
          before = omega arith;
          small = omega (arith, c.small, few s at (get_or d i 0) (walk-room s d n at i c.walk more));
          is = omega (
            arith,
            c.is,
            rest,
            b,
            ap₂ (λ (k y : ℕ). below x (members_from s k (at + y) (drop (i + 1) (take n d)))) (add-one i) z,
          );
        }
