-- The one written form of a set, which is given as its strictly rising list of positions.
use Rattle.std.specs.Prelude.{ℕ, zero, suc, ◌+◌, ◌-◌, ◌*◌, ◌/◌, ◌%◌, ◌^◌, min, max, List, [], ◌∷◌, ◌++◌, map, length, get_or, take, drop, ltb, eqb}
use Rattle.std.specs.Int.Count.{count_leading_zeros}
use Rattle.common.specs.Outcome.{pick, one}
use Rattle.common.specs.Lists.{from, keep, mem}
use Rattle.common.specs.Bytes.{ceil8}
use Rattle.bitmap_spec.specs.Bits.{bytes_of, pack_values}

-- ---- the least and the largest of a list

unfoldable pub smallest : ℕ → List ℕ → ℕ
smallest m [] = m
smallest m (x ∷ xs) = smallest (min m x) xs

unfoldable pub least : List ℕ → ℕ
least [] = 0
least (x ∷ xs) = smallest x xs

unfoldable pub largest : List ℕ → ℕ
largest [] = 0
largest (x ∷ xs) = max x (largest xs)

-- ---- a chunk. vs are the descriptors less m, "the least descriptor"

-- "the width of a value is the fewest bits that hold it less m (0 needs 0)"; v is already less m
unfoldable pub width : ℕ → ℕ
width v = 8 - count_leading_zeros 8 v

-- the values wider than b
unfoldable pub wider : ℕ → List ℕ → List ℕ
wider b vs = keep (λ v. ltb b (width v)) vs

-- "the cost in a chunk of n descriptors is ceil(n·b/8) + e + ceil(e·b2/8)", where "e is how many values are wider than
-- b, b2 is the largest width less b"; n is the length of vs
unfoldable pub cost : List ℕ → ℕ → ℕ
cost vs b = ceil8 (length vs * b) + length (wider b vs) + ceil8 (length (wider b vs) * (largest (map width vs) - b))

-- "least cost wins, smaller b on a tie", among 0 to b
unfoldable pub cheapest : List ℕ → ℕ → ℕ
cheapest vs zero = 0
cheapest vs (suc b) = pick (ltb (cost vs (suc b)) (cost vs (cheapest vs b))) (suc b) (cheapest vs b)

-- the chunk's bytes at the widths b1 and b2 with exceptions at offs
unfoldable pub chunk_at : List ℕ → ℕ → ℕ → ℕ → List ℕ → List ℕ
chunk_at vs m b1 b2 offs =
    (b1 + 16 * b2) ∷ length offs ∷ m ∷
    (pack_values (λ i. get_or vs i 0 % 2 ^ b1) b1 (length vs)
    ++ (offs
    ++ pack_values (λ j. get_or vs (get_or offs j 0) 0 / 2 ^ b1) b2 (length offs)))

-- at the width b: "if e is 0, b2 is 0. Exactly the values wider than b are exceptions"
unfoldable pub chunk_of : List ℕ → ℕ → ℕ → List ℕ
chunk_of vs m b =
    chunk_at vs m b (pick (eqb (length (wider b vs)) 0) 0 (largest (map width vs) - b))
    (keep (λ i. ltb b (width (get_or vs i 0))) (from 0 (length vs)))

-- "for each b from 0 to 8, up to the largest width"
unfoldable pub write_chunk : List ℕ → List ℕ
write_chunk ds =
    chunk_of (map (λ d. d - least ds) ds) (least ds)
    (cheapest (map (λ d. d - least ds) ds) (largest (map width (map (λ d. d - least ds) ds))))

-- k whole chunks of 256, then the remainder
unfoldable pub write_chunks : ℕ → List ℕ → List ℕ
write_chunks zero [] = []
write_chunks zero (d ∷ ds) = write_chunk (d ∷ ds)
write_chunks (suc k) ds = write_chunk (take 256 ds) ++ write_chunks k (drop 256 ds)

-- ---- containers

-- the members of container k of the set l, 0 to 255
unfoldable pub cut : List ℕ → ℕ → List ℕ
cut l k = keep (λ j. mem (k * 256 + j) l) (from 0 256)

-- "fewer than 32 members: sparse; otherwise descriptor 32"
unfoldable pub descriptor_of : List ℕ → ℕ
descriptor_of c = min (length c) 32

unfoldable pub write_container : List ℕ → List ℕ
write_container c = pick (ltb (length c) 32) c (bytes_of (λ j. one (mem j c)) 32)

unfoldable pub write_containers : List (List ℕ) → List ℕ
write_containers [] = []
write_containers (c ∷ cs) = write_container c ++ write_containers cs

-- ---- the whole form

-- "the container count is the highest position divided by 256, rounded down, plus 1; the empty set has 0"
unfoldable pub count_of : List ℕ → ℕ
count_of [] = 0
count_of (x ∷ xs) = largest (x ∷ xs) / 256 + 1

-- n in k bytes, little endian
unfoldable pub little : ℕ → ℕ → List ℕ
little n zero = []
little n (suc k) = (n % 256) ∷ little (n / 256) k

-- version, cardinality, count, "then descriptors, then containers, then nothing"
unfoldable pub form_of : ℕ → List (List ℕ) → List ℕ
form_of card cs =
    1 ∷ (little card 3 ++ (little (length cs) 2
    ++ (write_chunks (length cs / 256) (map descriptor_of cs) ++ write_containers cs)))

unfoldable pub form : List ℕ → List ℕ
form l = form_of (length l) (map (cut l) (from 0 (count_of l)))
