-- All chunks are read back as the descriptors, whatever width up to its largest each has; the form's are by its cost.
-- Assumes nothing.
use mathlib.Core.Path.{◌≡◌, refl, ap, ap₂, ◌∙◌}
use mathlib.Core.List.{List, [], ◌∷◌, ◌++◌, map, append_assoc, append-nil}
use Prim.Native.Nat.{ℕ, zero, suc, ◌+◌, ◌*◌, ◌≤◌, ◌<◌}
use native.Mathlib.Nat.{add-zero, add_assoc}
use native.Mathlib.Omega.{arith}
use lib.ListN.{length, take, drop, length-append, length-drop, take-append-drop}
use lib.Seq.{length-take-le}
use Rattle.common.specs.Outcome.{found}
use Rattle.bitmap_spec.specs.Form.{width, largest, least, cost, chunk_of, write_chunk, write_chunks}
use Rattle.bitmap_spec.specs.Judge.{chunk, chunks, last_chunk}
use Rattle.bitmap_laws.specs.Widths.{values, chunk_by, chunks_by, chosen_by}
use Rattle.bitmap_laws.proofs.Values.{AllLe, cheapest-by, chunk_by-back}

pub all_take : (n k : ℕ) (l : List ℕ) → AllLe n l → AllLe n (take k l)
unfolding AllLe
all_take n zero l a = tt
all_take n (suc k) [] a = tt
all_take n (suc k) (x ∷ xs) a = (a.0, all_take n k xs a.1)

pub all_drop : (n k : ℕ) (l : List ℕ) → AllLe n l → AllLe n (drop k l)
unfolding AllLe
all_drop n zero l a = a
all_drop n (suc k) [] a = tt
all_drop n (suc k) (x ∷ xs) a = all_drop n k xs a.1

last-is : (s : List ℕ) (at : ℕ) (acc : List ℕ) (r next : ℕ) (ds : List ℕ)
    → chunk s at (suc r) ≡ found (record { descs = ds; next = next })
    → last_chunk s at acc (suc r) ≡ found (record { descs = acc ++ ds; next = next })
unfolding last_chunk
last-is s at acc r next ds e = rw e

last_none : (s : List ℕ) (at : ℕ) (acc : List ℕ)
    → last_chunk s at acc 0 ≡ found (record { descs = acc ++ []; next = at + 0 })
unfolding last_chunk
last_none s at acc = rw (append-nil acc, add-zero at)

next-is : (s : List ℕ) (at : ℕ) (acc : List ℕ) (k r next : ℕ) (ds : List ℕ)
    → chunk s at 256 ≡ found (record { descs = ds; next = next })
    → chunks s at acc (suc k) r ≡ chunks s next (acc ++ ds) k r
unfolding chunks
next-is s at acc k r next ds e = rw e

-- a whole chunk of the descriptors ds, then others of the descriptors es
chunk-then : (pre first rest post acc ds es : List ℕ) (k r : ℕ)
    → chunk (pre ++ (first ++ (rest ++ post))) (length pre) 256
    ≡ found (record { descs = ds; next = length pre + length first })
    → chunks ((pre ++ first) ++ (rest ++ post)) (length (pre ++ first)) (acc ++ ds) k r
    ≡ found (record { descs = (acc ++ ds) ++ es; next = length (pre ++ first) + length rest })
    → chunks (pre ++ ((first ++ rest) ++ post)) (length pre) acc (suc k) r
    ≡ found (record { descs = acc ++ (ds ++ es); next = length pre + length (first ++ rest) })
chunk-then pre first rest post acc ds es k r one more =
    let here = next-is (pre ++ (first ++ (rest ++ post))) (length pre) acc k r (length pre + length first) ds one in
    let after = rw (
      append_assoc pre first (rest ++ post),
      length-append pre first,
      append_assoc acc ds es,
      add_assoc (length pre) (length first) (length rest),
      ← length-append first rest,
    ) at more in
    rw (append_assoc first rest post) (here ∙ after)

module _ (b : ℕ → List ℕ → ℕ) (b-le : (k : ℕ) (vs : List ℕ) → b k vs ≤ largest (map width vs)) where
  pub chunks-back : (pre post acc : List ℕ) (k r : ℕ) (ds : List ℕ) → AllLe 63 ds → length ds ≡ k * 256 + r → r < 256
      → chunks (pre ++ (chunks_by b k ds ++ post)) (length pre) acc k r
      ≡ found (record { descs = acc ++ ds; next = length pre + length (chunks_by b k ds) })
  unfolding chunks_by chunks
  chunks-back pre post acc zero zero [] a n h = last_none (pre ++ post) (length pre) acc
  chunks-back pre post acc zero (suc r) [] a n h = absurd (omega arith)
  chunks-back pre post acc zero zero (d ∷ ds) a n h = absurd (omega arith)
  chunks-back pre post acc zero (suc r) (d ∷ ds) a n h =
      let e : length (d ∷ ds) ≡ suc r = omega arith in
      let one = rw e at (chunk_by-back (b 0) (b-le 0) pre post (d ∷ ds) a (omega arith) (omega arith)) in
      let all : List ℕ = pre ++ (chunk_by (b 0) (d ∷ ds) ++ post) in
      last-is all (length pre) acc r (length pre + length (chunk_by (b 0) (d ∷ ds))) (d ∷ ds) one
  chunks-back pre post acc (suc k) r ds a n h =
      let first = all_take 63 256 ds a in
      let t : length (take 256 ds) ≡ 256 = length-take-le 256 ds (omega arith) in
      let read = chunk_by-back (b (suc k)) (b-le (suc k)) pre (chunks_by b k (drop 256 ds) ++ post) (take 256 ds) first in
      let one = rw t at (read (rw t (omega arith)) (rw t (omega arith))) in
      let left : length (drop 256 ds) ≡ k * 256 + r = length-drop 256 ds ∙ omega arith in
      let on = chunks-back (pre ++ chunk_by (b (suc k)) (take 256 ds)) post (acc ++ take 256 ds) k r (drop 256 ds) in
      let more = on (all_drop 63 256 ds a) left h in
      let all = chunk-then pre (chunk_by (b (suc k)) (take 256 ds)) (chunks_by b k (drop 256 ds)) post acc in
      rw (take-append-drop 256 ds) at (all (take 256 ds) (drop 256 ds) k r one more)

-- ---- the chunks of the form are those of its cost
pub chunk-by : (ds : List ℕ) → write_chunk ds ≡ chunk_by (chosen_by cost) ds
unfolding write_chunk chunk_by chosen_by
chunk-by ds = ap (λ b. chunk_of (values ds) (least ds) b) (cheapest-by (values ds) (largest (map width (values ds))))

pub chunks-by : (k : ℕ) (ds : List ℕ) → write_chunks k ds ≡ chunks_by (λ i. chosen_by cost) k ds
unfolding write_chunks chunks_by
chunks-by zero [] = refl
chunks-by zero (d ∷ ds) = chunk-by (d ∷ ds)
chunks-by (suc k) ds = ap₂ ◌++◌ (chunk-by (take 256 ds)) (chunks-by k (drop 256 ds))
