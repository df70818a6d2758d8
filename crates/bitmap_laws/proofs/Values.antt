-- A chunk is read back as its descriptors, whatever width up to the largest it has.
-- Assumes nothing.
use mathlib.Core.Path.{◌≡◌, refl, sym, ap, ◌∙◌}
use mathlib.Core.Bool.{Bool, true, false}
use mathlib.Core.List.{List, [], ◌∷◌, ◌++◌, map}
use Prim.Native.Nat.{ℕ, zero, suc, ◌+◌, ◌-◌, ◌*◌, ◌/◌, ◌%◌, ◌^◌, ◌≤◌, ◌<◌, min}
use native.Mathlib.Nat.{suc-add, add-suc, add-zero, zero-add, not-suc-le-zero, le_of_suc-le-suc}
use native.Mathlib.Omega.{arith}
use borrow.Author.Tests.{lt-ltb, leb-true, ne_eqb}
use lib.Dec.{leb, ltb, eqb}
use lib.Count.{count_leading_zeros}
use lib.ListN.{length, get_or, length-append, length-map}
use lib.Seq.{ext_get_or}
use Rattle.common.proofs.Lists.{length-table, both_left, both_right}
use Rattle.common.specs.Bytes.{ceil8}
use Rattle.common.specs.Lists.{keep, from, every, table}
use Rattle.common.specs.Outcome.{found, pick}
use Rattle.bitmap_spec.specs.Bits.{pack_values}
use Rattle.bitmap_spec.specs.Form.{width, wider, cost, cheapest, largest, least, smallest, chunk_at, chunk_of}
use Rattle.bitmap_spec.specs.Judge.{chunk}
use Rattle.bitmap_laws.specs.Widths.{values, chunk_by, cheapest_by, chosen_by}
use Rattle.bitmap_laws.proofs.Back.{length-pack}
use Rattle.bitmap_laws.proofs.Chunk.{F, offs, back}
use Rattle.bitmap_laws.proofs.Except.{narrow}
use Rattle.bitmap_laws.proofs.Pack.{get_or-table}

-- every value of the list is at most n
unfoldable pub AllLe : ℕ → List ℕ → Type 0
AllLe n [] = Unit {0}
AllLe n (x ∷ xs) = (x ≤ n) × AllLe n xs

pub all-at : (n : ℕ) (l : List ℕ) (i : ℕ) → AllLe n l → i < length l → get_or l i 0 ≤ n
unfolding AllLe
all-at n [] i a h = absurd (not-suc-le-zero h)
all-at n (x ∷ xs) zero a h = a.0
all-at n (x ∷ xs) (suc i) a h = all-at n xs i a.1 (le_of_suc-le-suc h)

-- ---- the least value
pub smallest-le : (m : ℕ) (xs : List ℕ) → smallest m xs ≤ m
unfolding smallest
smallest-le m [] = omega arith
smallest-le m (x ∷ xs) = omega (arith, smallest-le (min m x) xs)

smallest-at : (m : ℕ) (xs : List ℕ) (i : ℕ) → i < length xs → smallest m xs ≤ get_or xs i 0
unfolding smallest
smallest-at m [] i h = absurd (not-suc-le-zero h)
smallest-at m (x ∷ xs) zero h = omega (arith, smallest-le (min m x) xs)
smallest-at m (x ∷ xs) (suc i) h = smallest-at (min m x) xs i (le_of_suc-le-suc h)

pub least_at : (ds : List ℕ) (i : ℕ) → i < length ds → least ds ≤ get_or ds i 0
unfolding least
least_at [] i h = absurd (not-suc-le-zero h)
least_at (x ∷ xs) zero h = smallest-le x xs
least_at (x ∷ xs) (suc i) h = smallest-at x xs i (le_of_suc-le-suc h)

-- ---- the largest width
pub map_at : (f : ℕ → ℕ) (l : List ℕ) (i : ℕ) → i < length l → get_or (map f l) i 0 ≡ f (get_or l i 0)
map_at f [] i h = absurd (not-suc-le-zero h)
map_at f (x ∷ xs) zero h = refl
map_at f (x ∷ xs) (suc i) h = map_at f xs i (le_of_suc-le-suc h)

pub largest-at : (l : List ℕ) (i : ℕ) → i < length l → get_or l i 0 ≤ largest l
unfolding largest
largest-at [] i h = absurd (not-suc-le-zero h)
largest-at (x ∷ xs) zero h = omega arith
largest-at (x ∷ xs) (suc i) h = omega (arith, largest-at xs i (le_of_suc-le-suc h))

pub every-at : (f : ℕ → Bool) (k n i : ℕ) → every f (from k n) ≡ true → i < n → f (k + i) ≡ true
unfolding every from
every-at f k zero i e h = absurd (not-suc-le-zero h)
every-at f k (suc n) zero e h = rw (add-zero k) (both_left (f k) _ e)
every-at f k (suc n) (suc i) e h =
    rw (add-suc k i, ← suc-add k i) (every-at f (suc k) n i (both_right (f k) _ e) (le_of_suc-le-suc h))

narrow-all : every (λ v. leb (width v) 6) (from 0 64) ≡ true
unfolding every from width count_leading_zeros
narrow-all = refl

pub width_small : (v : ℕ) → v < 64 → width v ≤ 6
width_small v h = leb-true (width v) 6 (rw (zero-add v) at (every-at (λ v. leb (width v) 6) 0 64 v narrow-all h))

pub widest-small : (vs : List ℕ) → AllLe 63 vs → largest (map width vs) ≤ 6
unfolding largest AllLe
widest-small [] a = omega arith
widest-small (v ∷ vs) a = omega (arith, width_small v (omega (arith, a.0)), widest-small vs a.1)

-- the cheapest is so for any cost
pub cheapest-by : (vs : List ℕ) (b : ℕ) → cheapest vs b ≡ cheapest_by cost vs b
unfolding cheapest cheapest_by
cheapest-by vs zero = refl
cheapest-by vs (suc b) = rw (cheapest-by vs b)

-- one of two numbers
pub pick-le : (t : Bool) (x y w : ℕ) → x ≤ w → y ≤ w → pick t x y ≤ w
pick-le true x y w p q = p
pick-le false x y w p q = q

cheapest_by-le : (c : List ℕ → ℕ → ℕ) (vs : List ℕ) (b : ℕ) → cheapest_by c vs b ≤ b
unfolding cheapest_by
cheapest_by-le c vs zero = omega arith
cheapest_by-le c vs (suc b) =
    let less = cheapest_by-le c vs b in
    let t = ltb (c vs (suc b)) (c vs (cheapest_by c vs b)) in
    pick-le t (suc b) (cheapest_by c vs b) (suc b) (omega arith) (omega arith)

-- no cost chooses more than the largest width
pub chosen-le : (c : List ℕ → ℕ → ℕ) (vs : List ℕ) → chosen_by c vs ≤ largest (map width vs)
unfolding chosen_by
chosen-le c vs = cheapest_by-le c vs (largest (map width vs))

-- a value that is wider is among the wider
pub wider-some : (b : ℕ) (vs : List ℕ) (i : ℕ) → i < length vs → b < width (get_or vs i 0) → 0 < length (wider b vs)
unfolding wider keep
wider-some b [] i h g = absurd (not-suc-le-zero h)
wider-some b (v ∷ vs) zero h g = rw (lt-ltb b (width v) g) (omega arith)
wider-some b (v ∷ vs) (suc i) h g = go (ltb b (width v)) (wider-some b vs i (le_of_suc-le-suc h) g)
  where
    go : (t : Bool) → 0 < length (keep (λ v. ltb b (width v)) vs)
        → 0 < length (pick t (v ∷ keep (λ v. ltb b (width v)) vs) (keep (λ v. ltb b (width v)) vs))
    go true ih = omega arith
    go false ih = ih

pub length-chunk_at : (vs : List ℕ) (m b b2 : ℕ) (os : List ℕ)
    → length (chunk_at vs m b b2 os) ≡ 3 + ceil8 (length vs * b) + length os + ceil8 (length os * b2)
unfolding chunk_at
length-chunk_at vs m b b2 os =
    rw (
      length-append (pack_values (λ i. get_or vs i 0 % 2 ^ b) b (length vs))
          (os ++ pack_values (λ j. get_or vs (get_or os j 0) 0 / 2 ^ b) b2 (length os)),
      length-append os (pack_values (λ j. get_or vs (get_or os j 0) 0 / 2 ^ b) b2 (length os)),
      length-pack (λ i. get_or vs i 0 % 2 ^ b) b (length vs),
      length-pack (λ j. get_or vs (get_or os j 0) 0 / 2 ^ b) b2 (length os),
    ) (omega arith)

-- the second width
unfoldable pub second : List ℕ → ℕ → ℕ
second vs b = pick (eqb (length (wider b vs)) 0) 0 (largest (map width vs) - b)

second-le : (vs : List ℕ) (b : ℕ) → b ≤ largest (map width vs) → b + second vs b ≤ largest (map width vs)
unfolding second
second-le vs b h = go (eqb (length (wider b vs)) 0)
  where
    go : (t : Bool) → b + pick t 0 (largest (map width vs) - b) ≤ largest (map width vs)
    go true = omega arith
    go false = omega arith

module _ (pre post vs : List ℕ) (m b : ℕ) (b-le : b ≤ largest (map width vs)) (few : length vs ≤ 256) (m-fits : m ≤ 63)
    (small : (i : ℕ) → i < length vs → m + get_or vs i 0 ≤ 63) (w_le : largest (map width vs) ≤ 6) where
  fits : (i : ℕ) → i < length vs → b < width (get_or vs i 0) → get_or vs i 0 < 2 ^ (b + second vs b)
  unfolding second
  fits i h g =
      let some = wider-some b vs i h g in
      let e : b + (largest (map width vs) - b) ≡ largest (map width vs) = omega arith in
      let top = largest-at (map width vs) i (rw (length-map vs width) h) in
      let w : width (get_or vs i 0) ≤ largest (map width vs) = rw (map_at width vs i h) at top in
      let some-wider = ne_eqb (length (wider b vs)) 0 (λ z. omega arith) in
      rw (some-wider, e) (narrow (get_or vs i 0) (largest (map width vs)) (omega (arith, small i h)) w)

  pub chunk_of-back : chunk (pre ++ (chunk_of vs m b ++ post)) (length pre) (length vs)
      ≡ found (record {
        descs = table (λ i. m + get_or vs i 0) 0 (length vs);
        next = length pre + length (chunk_of vs m b);
      })
  unfolding chunk_of second F offs
  chunk_of-back =
      back pre post vs m b (second vs b) (omega (arith, second-le vs b b-le)) (omega arith) few (omega arith) small fits
      ∙ ap (λ (k : ℕ). found (record { descs = table (λ i. m + get_or vs i 0) 0 (length vs); next = k }))
      (sym (rw (length-chunk_at vs m b (second vs b) (keep (λ i. ltb b (width (get_or vs i 0))) (from 0 (length vs))))
      (omega arith)))

-- ---- a whole chunk
pub le-map : (m n : ℕ) (ds : List ℕ) → AllLe n ds → AllLe n (map (λ d. d - m) ds)
unfolding AllLe
le-map m n [] a = tt
le-map m n (d ∷ ds) a = (omega (arith, a.0), le-map m n ds a.1)

-- at any width up to the largest it is read back
pub chunk_by-back : (b : List ℕ → ℕ) → ((vs : List ℕ) → b vs ≤ largest (map width vs)) → (pre post ds : List ℕ)
    → AllLe 63 ds → 0 < length ds → length ds ≤ 256
    → chunk (pre ++ (chunk_by b ds ++ post)) (length pre) (length ds)
    ≡ found (record { descs = ds; next = length pre + length (chunk_by b ds) })
unfolding chunk_by
chunk_by-back b b-le pre post ds a some few =
    let n : length (values ds) ≡ length ds = length-map ds (λ d. d - least ds) in
    let at : (i : ℕ) → i < length ds → least ds + get_or (values ds) i 0 ≡ get_or ds i 0 =
    λ i h. rw (map_at (λ d. d - least ds) ds i h) (omega (arith, least_at ds i h)) in
    let r = chunk_of-back pre post (values ds) (least ds) (b (values ds)) (b-le (values ds)) (omega arith)
    (omega (arith, least_at ds 0 some, all-at 63 ds 0 a some))
    (λ i h. rw (at i (omega arith)) (all-at 63 ds i a (omega arith)))
    (widest-small (values ds) (le-map (least ds) 63 ds a)) in
    let f : ℕ → ℕ = λ i. least ds + get_or (values ds) i 0 in
    let long = length-table f 0 (length ds) in
    let same : (i : ℕ) → i < length (table f 0 (length ds)) → get_or (table f 0 (length ds)) i 0 ≡ get_or ds i 0 =
    λ i h. let g : i < length ds = rw long at h in
    get_or-table f 0 (length ds) i g ∙ rw (zero-add i) (at i g) in
    let t : table f 0 (length ds) ≡ ds = ext_get_or 0 _ ds long same in
    (rw (n, t) at r)
