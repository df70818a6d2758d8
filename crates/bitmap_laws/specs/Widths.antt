-- A form by any choice of a width for each chunk: what a writer with another cost than ours writes.
use Rattle.std.specs.Prelude.{ℕ, zero, suc, ◌+◌, ◌-◌, ◌*◌, ◌/◌, List, [], ◌∷◌, ◌++◌, map, ltb, length, take, drop}
use Rattle.common.specs.Bytes.{ceil8}
use Rattle.common.specs.Lists.{from}
use Rattle.common.specs.Outcome.{pick}
use Rattle.bitmap_spec.specs.Form.{least, largest, width, wider, chunk_of, cut, count_of, descriptor_of, write_containers}
use Rattle.bitmap_spec.specs.Form.{little}

-- the descriptors less the least of them
abbrev pub values : List ℕ → List ℕ
values ds = map (λ d. d - least ds) ds

-- ---- all but the widths is as in the form

-- b gives the width for the values
unfoldable pub chunk_by : (List ℕ → ℕ) → List ℕ → List ℕ
chunk_by b ds = chunk_of (values ds) (least ds) (b (values ds))

-- b k gives it for the chunk that has k whole ones from it on
unfoldable pub chunks_by : (ℕ → List ℕ → ℕ) → ℕ → List ℕ → List ℕ
chunks_by b zero [] = []
chunks_by b zero (d ∷ ds) = chunk_by (b 0) (d ∷ ds)
chunks_by b (suc k) ds = chunk_by (b (suc k)) (take 256 ds) ++ chunks_by b k (drop 256 ds)

unfoldable pub form_of_by : (ℕ → List ℕ → ℕ) → ℕ → List (List ℕ) → List ℕ
form_of_by b card cs =
    1 ∷ (little card 3 ++ (little (length cs) 2
    ++ (chunks_by b (length cs / 256) (map descriptor_of cs) ++ write_containers cs)))

unfoldable pub form_by : (ℕ → List ℕ → ℕ) → List ℕ → List ℕ
form_by b l = form_of_by b (length l) (map (cut l) (from 0 (count_of l)))

-- ---- the width of least cost, for any cost: "least cost wins, smaller b on a tie", "up to the largest width"

unfoldable pub cheapest_by : (List ℕ → ℕ → ℕ) → List ℕ → ℕ → ℕ
cheapest_by c vs zero = 0
cheapest_by c vs (suc b) = pick (ltb (c vs (suc b)) (c vs (cheapest_by c vs b))) (suc b) (cheapest_by c vs b)

unfoldable pub chosen_by : (List ℕ → ℕ → ℕ) → List ℕ → ℕ
chosen_by c vs = cheapest_by c vs (largest (map width vs))

-- 01's "the cost is 32·b + e + ceil(e·b2/8)", which counts every chunk as one of 256. 02 (iii) replaces it
unfoldable pub whole_cost : List ℕ → ℕ → ℕ
whole_cost vs b = 32 * b + length (wider b vs) + ceil8 (length (wider b vs) * (largest (map width vs) - b))

-- the form by that cost: 02's "old masks"
unfoldable pub old_form : List ℕ → List ℕ
old_form l = form_by (λ k. chosen_by whole_cost) l
