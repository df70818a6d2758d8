-- Membership, container by container: position x is looked for in container x / 256 alone.
-- Assumes nothing.
use mathlib.Core.Path.{◌≡◌, refl, sym, ap, ◌∙◌}
use mathlib.Core.Logic.{⊎_elim}
use mathlib.Core.Bool.{Bool, true, false}
use mathlib.Core.List.{List, [], ◌∷◌, ◌++◌, map}
use Prim.Native.Nat.{ℕ, zero, suc, ◌+◌, ◌*◌, ◌/◌, ◌%◌, ◌≤◌, ◌<◌}
use native.Mathlib.Nat.{eq-or-lt_of_le, not-suc-le-zero, le_of_suc-le-suc, add-zero, add_assoc}
use native.Mathlib.Omega.{arith}
use borrow.Author.Tests.{eq-eqb, ne_eqb}
use lib.ListN.{length, get_or, take, drop}
use lib.Dec.{eqb}
use lib.Seq.{length-take-le, take-take, get_or-take}
use Rattle.common.specs.Outcome.{pick}
use Rattle.common.specs.Lists.{mem, rising, sum}
use Rattle.bitmap_spec.specs.Judge.{size_of, container, container_ok, containers_ok, members_from}
use Rattle.judge.specs.Post.{SliceView, viewed}
use Rattle.common.proofs.Lists.{both_left, both_right}
use Rattle.bitmap_spec.proofs.Window.{below_or}
use Rattle.bitmap_laws.proofs.Members.{mem-low, mem-high}
use Rattle.bitmap_laws.proofs.Rise.{rising-shift}
use Rattle.bitmap_laws.proofs.Accept.{members-up}
use Rattle.judge.proofs.Walking.{rest-cons, sum-cons}
use Rattle.bitmap_read.proofs.Containers.{container-up}

-- a member of a joined list is a member of one of its parts
pub mem-left : (x : ℕ) (a b : List ℕ) → mem x b ≡ false → mem x (a ++ b) ≡ mem x a
unfolding mem
mem-left x [] b h = h
mem-left x (y ∷ a) b h = rw (mem-left x a b h)

pub mem-right : (x : ℕ) (a b : List ℕ) → mem x a ≡ false → mem x (a ++ b) ≡ mem x b
unfolding mem
mem-right x [] b h = refl
mem-right x (y ∷ a) b h = go (eqb x y) h (mem-right x a b)
  where
    go : (t : Bool) → pick t true (mem x a) ≡ false → (mem x a ≡ false → mem x (a ++ b) ≡ mem x b)
        → pick t true (mem x (a ++ b)) ≡ mem x b
    go true e ih = absurd (let z : ◌≡◌ {A = ℕ} 0 1 = cc in omega arith)
    go false e ih = ih e

eqb-shift : (m a b : ℕ) → eqb (m + a) (m + b) ≡ eqb a b
eqb-shift m a b =
    ⊎_elim (λ l. apart (λ e. omega arith))
    (λ l.
    ⊎_elim (λ e. rw e (eq-eqb (m + a) (m + a) refl ∙ sym (eq-eqb a a refl))) (λ g. apart (λ e. omega arith))
    (eq-or-lt_of_le l))
    (below_or a b)
  where
    apart : (a ≡ b → ⊥) → eqb (m + a) (m + b) ≡ eqb a b
    apart h = ne_eqb (m + a) (m + b) (λ e. h (omega arith)) ∙ sym (ne_eqb a b h)

pub mem-shift : (m j : ℕ) (c : List ℕ) → mem (m + j) (map (λ i. m + i) c) ≡ mem j c
unfolding mem
mem-shift m j [] = refl
mem-shift m j (y ∷ c) = rw (eqb-shift m j y, mem-shift m j c)

-- the members of container k lie from k * 256 on, below k * 256 + 256
pub shifted_up : (s : List ℕ) (k at d : ℕ) → container_ok s at d ≡ true
    → rising (k * 256 + 256) (k * 256) (map (λ j. k * 256 + j) (container s at d)) ≡ true
shifted_up s k at d e =
    rw (add-zero (k * 256)) at (rising-shift (k * 256) 256 0 (container s at d) (container-up s at d e))

module _ (s : List ℕ) (k at d : ℕ) (ds : List ℕ) (x : ℕ) (ok : containers_ok s at (d ∷ ds) ≡ true) where
  pub ok-first : container_ok s at d ≡ true
  unfolding containers_ok
  ok-first = both_left (container_ok s at d) _ ok

  pub ok-rest : containers_ok s (at + size_of d) ds ≡ true
  unfolding containers_ok
  ok-rest = both_right (container_ok s at d) _ ok

  mem-here : x / 256 ≡ k → mem x (members_from s k at (d ∷ ds)) ≡ mem (x % 256) (container s at d)
  unfolding members_from
  mem-here e =
      let q : k * 256 + x % 256 ≡ x = omega arith in
      mem-left x _ _
      (mem-low ((suc k + length ds) * 256) (suc k * 256) (members_from s (suc k) (at + size_of d) ds) x
      (members-up s (suc k) (at + size_of d) ds ok-rest) (omega arith))
      ∙ ap (λ (z : ℕ). mem z (map (λ j. k * 256 + j) (container s at d))) (sym q)
      ∙ mem-shift (k * 256) (x % 256) (container s at d)

  mem-on : k < x / 256 → mem x (members_from s k at (d ∷ ds)) ≡ mem x (members_from s (suc k) (at + size_of d) ds)
  unfolding members_from
  mem-on h =
      mem-right x _ _
      (mem-high (k * 256 + 256) (k * 256) (map (λ j. k * 256 + j) (container s at d)) x
      (shifted_up s k at d ok-first) (omega arith))

-- position x is a member exactly if x % 256 is one of container x / 256
pub has-at : (s : List ℕ) (k at : ℕ) (ds : List ℕ) (x i : ℕ) → containers_ok s at ds ≡ true → k + i ≡ x / 256
    → i < length ds
    → mem x (members_from s k at ds) ≡ mem (x % 256) (container s (at + sum size_of (take i ds)) (get_or ds i 0))
unfolding sum
has-at s k at [] x i ok e h = absurd (not-suc-le-zero h)
has-at s k at (d ∷ ds) x zero ok e h = rw (add-zero at) (mem-here s k at d ds x ok (omega arith))
has-at s k at (d ∷ ds) x (suc i) ok e h =
    mem-on s k at d ds x ok (omega arith)
    ∙ has-at s (suc k) (at + size_of d) ds x i (ok-rest s k at d ds x ok) (omega arith) (le_of_suc-le-suc h)
    ∙ rw (add_assoc at (size_of d) (sum size_of (take i ds)))

-- no position past the last container is a member
pub has-not : (s : List ℕ) (at : ℕ) (ds : List ℕ) (x : ℕ) → containers_ok s at ds ≡ true → length ds ≤ x / 256
    → mem x (members_from s 0 at ds) ≡ false
has-not s at ds x ok h =
    mem-high ((0 + length ds) * 256) (0 * 256) (members_from s 0 at ds) x (members-up s 0 at ds ok) (omega arith)

-- a container lies within the bytes that all ask for
pub room_at : (at : ℕ) (ds : List ℕ) (i n : ℕ) → at + sum size_of ds ≡ n → i < length ds
    → at + sum size_of (take i ds) + size_of (get_or ds i 0) ≤ n
unfolding sum
room_at at [] i n e h = absurd (not-suc-le-zero h)
room_at at (d ∷ ds) zero n e h = omega arith
room_at at (d ∷ ds) (suc i) n e h = omega (arith, room_at (at + size_of d) ds i n (omega arith) (le_of_suc-le-suc h))

-- ---- a set that was judged
module _ (s d : List ℕ) (n start : ℕ) (v : SliceView s d n start (viewed s d n start)) where
  few-there : length (take n d) ≡ n
  few-there = length-take-le n d (omega (arith, v.few, v.long))

  pub set_past : (x : ℕ) → n ≤ x / 256 → mem x (viewed s d n start) ≡ false
  unfolding viewed
  set_past x h = has-not s start (take n d) x v.sound (rw few-there h)

  pub set_at : (x : ℕ) → x / 256 < n
      → mem x (viewed s d n start)
      ≡ mem (x % 256) (container s (start + sum size_of (take (x / 256) d)) (get_or d (x / 256) 0))
  unfolding viewed
  set_at x h =
      has-at s 0 start (take n d) x (x / 256) v.sound (omega arith) (rw few-there h)
      ∙ rw (take-take (x / 256) n d (omega arith), get_or-take n d (x / 256) 0 h)

  pub set_room : (k : ℕ) → k < n → start + sum size_of (take k d) + size_of (get_or d k 0) ≤ length s
  set_room k h =
      rw (take-take k n d (omega arith), get_or-take n d k 0 h) at
      (room_at start (take n d) k (length s) v.ends (rw few-there h))

-- ---- a walk over the containers: the one at hand is container i, at byte at
pub record Walk (s d : List ℕ) (n at i : ℕ) : Type 0 where
  pub upto : i ≤ n
  pub long : n ≤ length d
  pub ends : at + sum size_of (drop i (take n d)) ≡ length s
  pub sound : containers_ok s at (drop i (take n d)) ≡ true

pub walk_start : (s d l : List ℕ) (n start : ℕ) → SliceView s d n start l → Walk s d n start 0
walk_start s d l n start v =
    record { upto = omega arith; long = omega (arith, v.few, v.long); ends = v.ends; sound = v.sound }

module _ (s d : List ℕ) (n at i : ℕ) (w : Walk s d n at i) (more : i < n) where
  -- the containers from this one on
  pub walk-cons : drop i (take n d) ≡ get_or d i 0 ∷ drop (i + 1) (take n d)
  walk-cons = rest-cons d n i w.long more

  pub walk-ok : containers_ok s at (get_or d i 0 ∷ drop (i + 1) (take n d)) ≡ true
  walk-ok = rw walk-cons at w.sound

  pub walk-room : at + size_of (get_or d i 0) ≤ length s
  walk-room = omega (arith, w.ends, sum-cons d n i w.long more)

  pub walk-next : (size : ℕ) → size ≡ size_of (get_or d i 0) → Walk s d n (at + size) (i + 1)
  walk-next size e = record {
    upto = omega arith;
    long = w.long;
    ends = omega (arith, w.ends, sum-cons d n i w.long more);
    sound = rw e (ok-rest s 0 at (get_or d i 0) (drop (i + 1) (take n d)) 0 walk-ok);
  }
