-- Sparse containers judged by counting: a container rises if none of its bytes after the first falls, and all of them
-- rise if the bytes that fall are
-- exactly first bytes of containers.
-- Assumes nothing.
use mathlib.Core.Path.{◌≡◌, refl, sym, ap, ◌∙◌}
use mathlib.Core.Bool.{Bool, true, false}
use mathlib.Core.Logic.{◌⊎◌, inl, inr, ⊎_elim}
use mathlib.Core.List.{List, [], ◌∷◌, ◌++◌}
use Prim.Native.Nat.{ℕ, zero, suc, ◌+◌, ◌-◌, ◌*◌, ◌≤◌, ◌<◌, suc-le-suc}
use native.Mathlib.Nat.{add-zero, zero-add, add-suc, suc-add, add_assoc, sub-zero}
use native.Mathlib.Numerals.{add-one}
use native.Mathlib.Omega.{arith}
use borrow.Author.Tests.{le-leb, lt-leb, lt-ltb, eq-eqb, ne_eqb}
use lib.ListN.{length, get_or, take, drop}
use lib.Seq.{drop-cons, take-suc, length-take-le, get_or-take}
use lib.Dec.{leb, eqb}
use mir.Val.{bool_byte}
use lib.Bits.{bit_or, or_comm, or_add_and, and_le_r}
use Rattle.common.specs.Lists.{sum, rising}
use Rattle.common.specs.Outcome.{Outcome, refused, found, need, pick, both, one}
use Rattle.bitmap_spec.specs.Judge.{size_of}
use Rattle.bitmap_spec.proofs.Reading.{walk}
use Rattle.bitmap_spec.proofs.Tally.{tally, tally-cat}
use Rattle.bitmap_spec.proofs.Window.{below_or}
use Rattle.judge.specs.Post.{fall, edge_falls, Sparse, size_at}
use Rattle.judge.proofs.Walking.{size-sparse, size-le, ok-sparse, size-container, rest-cons, rest-none}

same_or : (a b : ℕ) → (a ≡ b) ⊎ (a ≡ b → ⊥)
same_or a b =
    ⊎_elim (λ l. inr (λ e. omega arith))
    (λ g. ⊎_elim (λ l. inr (λ e. omega arith)) (λ l. inl (omega arith)) (below_or b a)) (below_or a b)

pub tally-cons : (f : ℕ → ℕ) (k n : ℕ) → tally f k (suc n) ≡ f k + tally f (suc k) n
unfolding tally
tally-cons f k zero = rw (add-zero k) (omega arith)
tally-cons f k (suc n) = rw (tally-cons f k n, suc-add k n, add-suc k n) (omega arith)

-- ---- one container

fall-suc : (s : List ℕ) (p : ℕ) → fall s (suc p) ≡ one (leb (get_or s (suc p) 0) (get_or s p 0))
unfolding fall
fall-suc s p =
    let e : suc p - 1 ≡ p = omega arith in
    rw e

fall-is : (s : List ℕ) (p : ℕ) → one (leb (get_or s p 0) (get_or s (p - 1) 0)) ≡ fall s p
unfolding fall
fall-is s p = refl

above : (x y t : ℕ) → both (both (leb (suc x) y) true) (eqb t 0) ≡ eqb (one (leb y x) + t) 0
above x y t = ⊎_elim up down (below_or x y)
  where
    up : x < y → both (both (leb (suc x) y) true) (eqb t 0) ≡ eqb (one (leb y x) + t) 0
    up l = rw (le-leb (suc x) y l, lt-leb y x l, zero-add t)

    down : y ≤ x → both (both (leb (suc x) y) true) (eqb t 0) ≡ eqb (one (leb y x) + t) 0
    down l = rw (lt-leb (suc x) y (omega arith), le-leb y x l) (sym (ne_eqb (1 + t) 0 (λ e. omega arith)))

rise-run : (s : List ℕ) (at n : ℕ) → ((k : ℕ) → get_or s k 0 < 256) → suc at + n ≤ length s
    → rising 256 (suc (get_or s at 0)) (take n (drop (suc at) s)) ≡ eqb (tally (fall s) (suc at) n) 0
unfolding rising tally
rise-run s at zero h g = refl
rise-run s at (suc n) h g =
    rw (
      drop-cons s (suc at) 0 (omega arith),
      lt-ltb (get_or s (suc at) 0) 256 (h (suc at)),
      rise-run s (suc at) n h (omega arith),
      tally-cons (fall s) (suc at) n,
      fall-suc s at,
    )
    (above (get_or s at 0) (get_or s (suc at) 0) (tally (fall s) (suc (suc at)) n))

run-first : (s : List ℕ) (at n : ℕ) → ((k : ℕ) → get_or s k 0 < 256) → at + suc n ≤ length s
    → rising 256 0 (take (suc n) (drop at s)) ≡ eqb (tally (fall s) (suc at) n) 0
unfolding rising
run-first s at n h g =
    rw (drop-cons s at 0 (omega arith), lt-ltb (get_or s at 0) 256 (h at), le-leb 0 (get_or s at 0) (omega arith))
    (rise-run s at n h (omega arith))

pub rises-if : (s : List ℕ) (at n : ℕ) → ((k : ℕ) → get_or s k 0 < 256) → at + n ≤ length s
    → rising 256 0 (take n (drop at s)) ≡ eqb (tally (fall s) (at + 1) (n - 1)) 0
unfolding rising tally
rises-if s at zero h g = refl
rises-if s at (suc n) h g =
    let e : suc n - 1 ≡ n = omega arith in
    rw (e, add-one at) (run-first s at n h g)

pub rises-short : (s : List ℕ) (at n : ℕ) → ((k : ℕ) → get_or s k 0 < 256) → at + n ≤ length s → n < 2
    → true ≡ rising 256 0 (take n (drop at s))
unfolding tally
rises-short s at n h g l =
    let e : n - 1 ≡ 0 = omega arith in
    sym (rises-if s at n h g ∙ rw e)

-- ---- all containers

first-falls : (s : List ℕ) (at d : ℕ)
    → tally (fall s) at d ≡ pick (eqb d 0) 0 (fall s at) + tally (fall s) (at + 1) (d - 1)
unfolding tally
first-falls s at zero = refl
first-falls s at (suc m) =
    let e : suc m - 1 ≡ m = omega arith in
    rw (tally-cons (fall s) at m, ne_eqb (suc m) 0 (λ z. omega arith), e, add-one at)

abbrev AllSparse : List ℕ → Type 0
AllSparse ds = (j : ℕ) → j < length ds → get_or ds j 0 < 32

tail : (d : ℕ) (ds : List ℕ) → AllSparse (d ∷ ds) → AllSparse ds
tail d ds h j l = h (suc j) (suc-le-suc l)

all-falls : (s : List ℕ) (at d n : ℕ)
    → tally (fall s) at (d + n)
    ≡ pick (eqb d 0) 0 (fall s at) + tally (fall s) (at + 1) (d - 1) + tally (fall s) (at + d) n
all-falls s at d n = rw (tally-cat (fall s) at d n, first-falls s at d)

edge-le : (s : List ℕ) (at : ℕ) (ds : List ℕ) → AllSparse ds → edge_falls s at ds ≤ tally (fall s) at (sum size_of ds)
unfolding edge_falls sum tally
edge-le s at [] h = omega arith
edge-le s at (d ∷ ds) h =
    let l : d < 32 = h 0 (omega arith) in
    let r = edge-le s (at + d) ds (tail d ds h) in
    rw (size-sparse d l, all-falls s at d (sum size_of ds)) (omega (arith, r))

both-none : (f i t e : ℕ) (x : Outcome ℕ) → e ≤ t
    → need (eqb i 0) 10 (need (eqb t e) 10 x) ≡ need (eqb (f + i + t) (f + e)) 10 x
unfolding need
both-none f i t e x l = ⊎_elim none some (same_or i 0)
  where
    none : i ≡ 0 → need (eqb i 0) 10 (need (eqb t e) 10 x) ≡ need (eqb (f + i + t) (f + e)) 10 x
    none z =
        ⊎_elim (λ q. rw (z, eq-eqb t e q, eq-eqb (f + 0 + t) (f + e) (omega arith)))
        (λ q. rw (z, ne_eqb t e q, ne_eqb (f + 0 + t) (f + e) (λ y. q (omega arith)))) (same_or t e)

    some : (i ≡ 0 → ⊥) → need (eqb i 0) 10 (need (eqb t e) 10 x) ≡ need (eqb (f + i + t) (f + e)) 10 x
    some z =
        let p : 0 < i = omega arith in
        rw (ne_eqb i 0 z, ne_eqb (f + i + t) (f + e) (λ y. omega arith))

walk-sparse : (s : List ℕ) (at card : ℕ) (ds : List ℕ) → ((k : ℕ) → get_or s k 0 < 256) → AllSparse ds
    → at + sum size_of ds ≤ length s
    → walk s at card ds ≡ need (eqb (tally (fall s) at (sum size_of ds)) (edge_falls s at ds)) 10
    (found (card + sum size_of ds))
unfolding walk sum edge_falls tally need
walk-sparse s at card [] b h g = rw (add-zero card)
walk-sparse s at card (d ∷ ds) b h g =
    let l : d < 32 = h 0 (omega arith) in
    let z = size-sparse d l in
    let room : at + (d + sum size_of ds) ≤ length s = rw z at g in
    let r = walk-sparse s (at + d) (card + d) ds b (tail d ds h) (omega arith) in
    rw (
      z,
      ok-sparse s at d l ∙ rises-if s at d b (omega arith),
      size-container s at d l (omega arith),
      r,
      all-falls s at d (sum size_of ds),
      add_assoc card d (sum size_of ds),
    )
    (both-none (pick (eqb d 0) 0 (fall s at)) (tally (fall s) (at + 1) (d - 1))
    (tally (fall s) (at + d) (sum size_of ds)) (edge_falls s (at + d) ds) (found (card + (d + sum size_of ds)))
    (edge-le s (at + d) ds (tail d ds h)))

sparse-list : (d : List ℕ) (n : ℕ) → n ≤ length d → Sparse d n → AllSparse (take n d)
sparse-list d n g h j l =
    let len : length (take n d) ≡ n = length-take-le n d g in
    let m : j < n = rw len at l in
    rw (get_or-take n d j 0 m) (h j m)

-- what the code asks
module _ (s d : List ℕ) (from n : ℕ) (b : (k : ℕ) → get_or s k 0 < 256) (g : n ≤ length d) (h : Sparse d n)
    (e : from + sum size_of (take n d) ≡ length s) where
  whole :
      walk s from 0 (take n d) ≡ need (eqb (tally (fall s) from (length s - from)) (edge_falls s from (take n d))) 10
      (found (length s - from))
  whole =
      let z : length s - from ≡ sum size_of (take n d) = omega arith in
      let all = walk-sparse s from 0 (take n d) b (sparse-list d n g h) (omega arith) in
      rw z (all ∙ rw (zero-add (sum size_of (take n d))))

  pub all-rise : (t : ℕ) → t ≡ tally (fall s) from (length s - from) → t ≡ edge_falls s from (take n d)
      → found (length s - from) ≡ walk s from 0 (take n d)
  unfolding need
  all-rise t p q =
      sym (whole ∙ rw (eq-eqb (tally (fall s) from (length s - from)) (edge_falls s from (take n d)) (sym p ∙ q)))

  pub one-falls : (t u : ℕ) → t ≡ tally (fall s) from (length s - from) → u ≡ edge_falls s from (take n d) → (t ≡ u → ⊥)
      → refused 10 ≡ walk s from 0 (take n d)
  unfolding need
  one-falls t u p q r =
      sym
      (whole ∙ rw
      (ne_eqb (tally (fall s) from (length s - from)) (edge_falls s from (take n d)) (λ z. r (p ∙ z ∙ sym q))))

-- ---- the loops

pub falls-more : (s : List ℕ) (i t : ℕ)
    → tally (fall s) i (t + 1) ≡ tally (fall s) i t + one (leb (get_or s (i + t) 0) (get_or s (i + t - 1) 0))
unfolding tally fall
falls-more s i t = rw (add-one t)

or_left : (x y : ℕ) → x ≤ bit_or x y
or_left x y = omega (arith, or_add_and x y, and_le_r x y)

pub sparse-more : (d : List ℕ) (i any : ℕ) → (any < 32 → Sparse d i) → bit_or any (get_or d i 0) < 32 → Sparse d (i + 1)
sparse-more d i any h l j g =
    ⊎_elim (λ m. h (omega (arith, or_left any (get_or d i 0))) j m)
    (λ m. let e : j ≡ i = omega arith in rw e (omega (arith, or_comm any (get_or d i 0), or_left (get_or d i 0) any)))
    (below_or j i)

pub edge-cons : (s d : List ℕ) (n i at : ℕ) → n ≤ length d → i < n → get_or d i 0 < 32
    → edge_falls s at (drop i (take n d)) ≡ pick (eqb (get_or d i 0) 0) 0 (fall s at) + edge_falls s (at + get_or d i 0)
    (drop (i + 1) (take n d))
unfolding edge_falls
edge-cons s d n i at g l h = rw (rest-cons d n i g l, size-sparse (get_or d i 0) h)

pub edge-end : (s d : List ℕ) (n i at : ℕ) → n ≤ length d → n ≤ i → edge_falls s at (drop i (take n d)) ≡ 0
unfolding edge_falls
edge-end s d n i at g l = rw (rest-none d n i g l)

pub byte_one : (b : Bool) → bool_byte b ≡ one b
byte_one true = refl
byte_one false = refl

pub byte_le : (b : Bool) → bool_byte b ≤ 1
byte_le true = omega arith
byte_le false = omega arith

-- an empty container counts once in both sums
pub edge-one : (s : List ℕ) (at t : ℕ) → 1 ≤ at
    → bool_byte (leb (get_or s (at - bool_byte (eqb t 0)) 0) (get_or s (at - 1) 0)) ≡ bool_byte (eqb t 0) + pick (eqb t 0) 0
    (fall s at)
edge-one s at t l = go (eqb t 0)
  where
    none : bool_byte (leb (get_or s (at - 1) 0) (get_or s (at - 1) 0)) ≡ 1 + 0
    none = rw (le-leb (get_or s (at - 1) 0) (get_or s (at - 1) 0) (omega arith))

    some : bool_byte (leb (get_or s (at - 0) 0) (get_or s (at - 1) 0)) ≡ 0 + fall s at
    some = rw (sub-zero at, zero-add (fall s at)) (byte_one (leb (get_or s at 0) (get_or s (at - 1) 0)) ∙ fall-is s at)

    go : (b : Bool)
        → bool_byte (leb (get_or s (at - bool_byte b) 0) (get_or s (at - 1) 0)) ≡ bool_byte b + pick b 0 (fall s at)
    go true = none
    go false = some

pub edge_in : (at t r len : ℕ) → 1 ≤ at → at + (t + r) ≡ len → at - bool_byte (eqb t 0) < len
edge_in at t r len l e =
    ⊎_elim (λ z. rw (eq-eqb t 0 z) (omega arith)) (λ z. rw (ne_eqb t 0 z) (omega arith)) (same_or t 0)

sum-few : (ds : List ℕ) → sum size_of ds ≤ length ds * 32
unfolding sum
sum-few [] = omega arith
sum-few (d ∷ ds) = omega (arith, size-le d, sum-few ds)

pub sum_bound : (d : List ℕ) (n : ℕ) → n ≤ length d → sum size_of (take n d) ≤ n * 32
sum_bound d n g =
    let len : length (take n d) ≡ n = length-take-le n d g in
    omega (arith, sum-few (take n d), len)

sum-last : (xs : List ℕ) (y : ℕ) → sum size_of (xs ++ (y ∷ [])) ≡ sum size_of xs + size_of y
unfolding sum
sum-last [] y = omega arith
sum-last (x ∷ xs) y = omega (arith, sum-last xs y)

-- the sum of the sizes, counted from the front
pub sum-tally : (d : List ℕ) (n : ℕ) → n ≤ length d → tally (size_at d) 0 n ≡ sum size_of (take n d)
unfolding tally sum size_at
sum-tally d zero g = refl
sum-tally d (suc n) g = rw (take-suc d n 0 g, sum-last (take n d) (get_or d n 0), sum-tally d n (omega arith), zero-add n)

pub size-more : (d : List ℕ) (i k : ℕ) → tally (size_at d) i (k + 1) ≡ tally (size_at d) i k + size_of (get_or d (i + k) 0)
unfolding tally size_at
size-more d i k = rw (add-one k)

pub tally-on : (f : ℕ → ℕ) (a b : ℕ) → tally f 0 (a + b) ≡ tally f 0 a + tally f a b
tally-on f a b = tally-cat f 0 a b ∙ ap (λ (x : ℕ). tally f 0 a + tally f x b) (zero-add a)
