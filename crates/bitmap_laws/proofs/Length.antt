-- The length of the written form, as a sum of its parts, and its bound.
-- Assumes nothing.
use mathlib.Core.Path.{◌≡◌, refl, ap, ◌∙◌}
use mathlib.Core.Logic.{⊎_elim}
use mathlib.Core.Bool.{Bool, true, false}
use mathlib.Core.List.{List, [], ◌∷◌, map}
use Prim.Native.Nat.{ℕ, zero, suc, ◌+◌, ◌-◌, ◌*◌, ◌/◌, ◌≤◌, ◌<◌}
use native.Mathlib.Nat.{le_refl, mul-le-mul, zero-mul}
use native.Mathlib.Omega.{arith}
use borrow.Author.Tests
use borrow.Author.Tests.{ne_eqb, le-ltb, ltb-true, ltb-false}
use lib.Dec.{ltb, eqb}
use lib.ListN.{length, get_or, take, drop, length-append, length-map, length-drop}
use lib.Seq.{length-take-le}
use Rattle.common.specs.Bytes.{ceil8}
use Rattle.common.specs.Lists.{sum, keep, from}
use Rattle.common.specs.Outcome.{pick}
use Rattle.bitmap_spec.proofs.Window.{below_or}
use Rattle.bitmap_spec.specs.Form.{form, cut, count_of, descriptor_of, width, wider, cost, cheapest, largest, least}
use Rattle.bitmap_spec.specs.Form.{chunk_of, write_chunk, write_chunks, write_containers}
use Rattle.bitmap_spec.specs.Judge.{size_of}
use Rattle.bitmap_spec.specs.Sets.{IsSet}
use Rattle.bitmap_laws.specs.Widths.{values, whole_cost}
use Rattle.bitmap_laws.proofs.Bodies.{descs-le, sizes-are}
use Rattle.bitmap_laws.proofs.Cuts.{length-cuts}
use Rattle.bitmap_laws.proofs.Rise.{count-bound}
use Rattle.bitmap_laws.proofs.Round.{header, form-is, six-is}
use Rattle.bitmap_laws.proofs.Values.{AllLe, second, length-chunk_at, widest-small, le-map}
use Rattle.bitmap_laws.proofs.Written.{all_take, all_drop}

-- ---- the exceptions, counted by place and by value
shift : (f : ℕ → Bool) (k n : ℕ) → length (keep f (from (suc k) n)) ≡ length (keep (λ i. f (suc i)) (from k n))
unfolding keep from
shift f k zero = refl
shift f k (suc n) = go (f (suc k)) (shift f (suc k) n)
  where
    go : (b : Bool) → length (keep f (from (suc (suc k)) n)) ≡ length (keep (λ i. f (suc i)) (from (suc k) n))
        → length (pick b (suc k ∷ keep f (from (suc (suc k)) n)) (keep f (from (suc (suc k)) n)))
        ≡ length (pick b (k ∷ keep (λ i. f (suc i)) (from (suc k) n)) (keep (λ i. f (suc i)) (from (suc k) n)))
    go true ih = ap suc ih
    go false ih = ih

pub by_place : (g : ℕ → Bool) (vs : List ℕ)
    → length (keep (λ i. g (get_or vs i 0)) (from 0 (length vs))) ≡ length (keep g vs)
unfolding keep from
by_place g [] = refl
by_place g (v ∷ vs) = go (g v) (shift (λ i. g (get_or (v ∷ vs) i 0)) 0 (length vs) ∙ by_place g vs)
  where
    go : (b : Bool) → length (keep (λ i. g (get_or (v ∷ vs) i 0)) (from 1 (length vs))) ≡ length (keep g vs)
        → length (pick b (0 ∷ keep (λ i. g (get_or (v ∷ vs) i 0)) (from 1 (length vs)))
        (keep (λ i. g (get_or (v ∷ vs) i 0)) (from 1 (length vs))))
        ≡ length (pick b (v ∷ keep g vs) (keep g vs))
    go true ih = ap suc ih
    go false ih = ih

-- ---- a chunk's bytes: three, the values, an offset for each exception, and the parts
unfoldable pub size_at : List ℕ → ℕ → ℕ
size_at vs b = 3 + ceil8 (length vs * b) + length (wider b vs) + ceil8 (length (wider b vs) * second vs b)

pub length-chunk_of : (vs : List ℕ) (m b : ℕ) → length (chunk_of vs m b) ≡ size_at vs b
unfolding chunk_of size_at second wider
length-chunk_of vs m b =
    length-chunk_at vs m b (second vs b) (keep (λ i. ltb b (width (get_or vs i 0))) (from 0 (length vs)))
    ∙ rw (by_place (λ v. ltb b (width v)) vs)

ceil-mono : (a b : ℕ) → a ≤ b → ceil8 a ≤ ceil8 b
unfolding ceil8
ceil-mono a b h = omega arith

ceil-whole : (a : ℕ) → ceil8 (256 * a) ≡ 32 * a
unfolding ceil8
ceil-whole a = omega arith

-- n values at more bits take no fewer bytes
pub ceil-wider : (n b c : ℕ) → b ≤ c → ceil8 (n * b) ≤ ceil8 (n * c)
ceil-wider n b c h = ceil-mono (n * b) (n * c) (mul-le-mul (le_refl n) h)

-- ---- the cost
-- it counts every byte of the chunk but its first three
pub size-is-cost : (vs : List ℕ) (b : ℕ) → size_at vs b ≡ 3 + cost vs b
unfolding size_at cost second
size-is-cost vs b = go (length (wider b vs))
  where
    go : (e : ℕ) → 3 + ceil8 (length vs * b) + e + ceil8 (e * pick (eqb e 0) 0 (largest (map width vs) - b))
        ≡ 3 + (ceil8 (length vs * b) + e + ceil8 (e * (largest (map width vs) - b)))
    go zero = rw (zero-mul (largest (map width vs) - b)) (omega arith)
    go (suc e) = rw (ne_eqb (suc e) 0 (λ z. omega arith)) (omega arith)

-- in a chunk of 256 it is 32·b + e + ceil(e·b2/8)
pub cost-whole : (vs : List ℕ) (b : ℕ) → length vs ≡ 256 → cost vs b ≡ whole_cost vs b
unfolding cost whole_cost
cost-whole vs b h = rw (h, ceil-whole b)

pub none-wider : (b : ℕ) (vs : List ℕ) → largest (map width vs) ≤ b → length (wider b vs) ≡ 0
unfolding wider keep largest
none-wider b [] h = refl
none-wider b (v ∷ vs) h = rw (le-ltb b (width v) (omega arith)) (none-wider b vs (omega arith))

-- from the largest width on there are no exceptions
pub cost-widest : (vs : List ℕ) (b : ℕ) → largest (map width vs) ≤ b → cost vs b ≡ ceil8 (length vs * b)
unfolding cost ceil8
cost-widest vs b h = rw (none-wider b vs h, zero-mul (largest (map width vs) - b)) (omega arith)

-- the chosen width costs no more than any other that it is chosen from
pub cheapest-least : (vs : List ℕ) (w b : ℕ) → b ≤ w → cost vs (cheapest vs w) ≤ cost vs b
unfolding cheapest
cheapest-least vs zero b h = let e : b ≡ 0 = omega arith in rw e (omega arith)
cheapest-least vs (suc w) b h = go (ltb (cost vs (suc w)) (cost vs (cheapest vs w))) refl (cheapest-least vs w b)
  where
    last : w < b → b ≡ suc w
    last g = omega arith

    go : (t : Bool) → ltb (cost vs (suc w)) (cost vs (cheapest vs w)) ≡ t
        → (b ≤ w → cost vs (cheapest vs w) ≤ cost vs b) → cost vs (pick t (suc w) (cheapest vs w)) ≤ cost vs b
    go true e ih =
        let less = ltb-true (cost vs (suc w)) (cost vs (cheapest vs w)) e in
        ⊎_elim (λ g. rw (last g) (omega arith)) (λ g. omega (arith, less, ih g)) (below_or w b)
    go false e ih = ⊎_elim (λ g. rw (last g) (ltb-false _ _ e)) ih (below_or w b)

-- ---- a chunk
-- three bytes, and what the chosen width costs
chunk-cost : (ds : List ℕ)
    → length (write_chunk ds) ≡ 3 + cost (values ds) (cheapest (values ds) (largest (map width (values ds))))
unfolding write_chunk
chunk-cost ds =
    let b : ℕ = cheapest (values ds) (largest (map width (values ds))) in
    rw (length-chunk_of (values ds) (least ds) b, size-is-cost (values ds) b) refl

-- no choice of b makes it shorter
pub chunk-least : (ds : List ℕ) (b : ℕ) → length (write_chunk ds) ≤ size_at (values ds) b
chunk-least ds b =
    rw (chunk-cost ds, size-is-cost (values ds) b)
    (⊎_elim past (λ g. omega (arith, cheapest-least (values ds) top b g)) (below_or top b))
  where
    top : ℕ
    top = largest (map width (values ds))

    chosen : ℕ
    chosen = cheapest (values ds) top

    past : top < b → 3 + cost (values ds) chosen ≤ 3 + cost (values ds) b
    past g = omega (
      arith,
      cheapest-least (values ds) top top (omega arith),
      cost-widest (values ds) top (omega arith),
      cost-widest (values ds) b (omega arith),
      ceil-wider (length (values ds)) top b (omega arith),
    )

-- so it takes at most what its largest width asks for
pub chunk-most : (ds : List ℕ) → length ds ≤ 256
    → length (write_chunk ds) ≤ 3 + 32 * largest (map width (map (λ d. d - least ds) ds))
chunk-most ds h = omega (
  arith,
  chunk-cost ds,
  cheapest-least (values ds) top top (omega arith),
  cost-widest (values ds) top (omega arith),
  ceil-whole top,
  ceil-mono (length (values ds) * top) (256 * top) (mul-le-mul few (le_refl top)),
)
  where
    top : ℕ
    top = largest (map width (values ds))

    few : length (values ds) ≤ 256
    few = rw (length-map ds (λ d. d - least ds)) h

pub chunk-size : (ds : List ℕ) → AllLe 63 ds → length ds ≤ 256 → length (write_chunk ds) ≤ 195
chunk-size ds a h = omega (arith, chunk-most ds h, widest-small (values ds) (le-map (least ds) 63 ds a))

pub chunks_size : (k : ℕ) (ds : List ℕ) → AllLe 63 ds → k * 256 ≤ length ds → length ds < k * 256 + 256
    → length (write_chunks k ds) ≤ 195 * ((length ds + 255) / 256)
unfolding write_chunks
chunks_size zero [] a p q = omega arith
chunks_size zero (d ∷ ds) a p q = omega (arith, chunk-size (d ∷ ds) a (omega arith))
chunks_size (suc k) ds a p q =
    rw (length-append (write_chunk (take 256 ds)) (write_chunks k (drop 256 ds)))
    (omega (
      arith,
      chunk-size (take 256 ds) (all_take 63 256 ds a) (rw (length-take-le 256 ds (omega arith)) (omega arith)),
      length-drop 256 ds,
      chunks_size k (drop 256 ds) (all_drop 63 256 ds a) (rw (length-drop 256 ds) (omega arith))
          (rw (length-drop 256 ds) (omega arith)),
    ))

pub size-le : (d : ℕ) → size_of d ≤ 32
unfolding size_of
size-le d = go (ltb d 32) refl
  where
    go : (t : Bool) → ltb d 32 ≡ t → pick t d 32 ≤ 32
    go true e = omega (arith, borrow.Author.Tests.ltb-true d 32 e)
    go false e = omega arith

pub sum-le : (ds : List ℕ) → sum size_of ds ≤ 32 * length ds
unfolding sum
sum-le [] = omega arith
sum-le (d ∷ ds) = omega (arith, size-le d, sum-le ds)

-- ---- the whole form
-- the descriptors of a set's containers
unfoldable pub descs_of : List ℕ → List ℕ
descs_of l = map descriptor_of (map (cut l) (from 0 (count_of l)))

pub length-descs : (l : List ℕ) → length (descs_of l) ≡ count_of l
unfolding descs_of
length-descs l = length-map (map (cut l) (from 0 (count_of l))) descriptor_of ∙ length-cuts l

pub length-form : (l : List ℕ)
    → length (form l) ≡ 6 + length (write_chunks (count_of l / 256) (descs_of l)) + sum size_of (descs_of l)
unfolding form descs_of
length-form l =
    let cs : List (List ℕ) = map (cut l) (from 0 (count_of l)) in
    rw (
      form-is (length l) cs,
      length-cuts l,
      length-append (header (length l) (count_of l)),
      length-append (write_chunks (count_of l / 256) (map descriptor_of cs)) (write_containers cs),
      six-is (length l) (count_of l),
      sizes-are cs,
    ) (omega arith)

-- no written form is longer than 268,390 bytes
pub form-bound : (l : List ℕ) → IsSet l → length (form l) ≤ 268390
unfolding descs_of
form-bound l s =
    let n = length-descs l in
    let c = count-bound l s in
    let chunks = chunks_size (count_of l / 256) (descs_of l) (descs-of l) (rw n (omega arith)) (rw n (omega arith)) in
    rw (length-form l) (omega (arith, chunks, sum-le (descs_of l)))
  where
    descs-of : (l : List ℕ) → AllLe 63 (descs_of l)
    descs-of l = descs-le (map (cut l) (from 0 (count_of l)))
