-- No call on bitmaps refuses with 0: each definition is a walk down nested needs, and no need's number is 0.
-- Assumes nothing.
use mathlib.Core.List.{List, [], ◌++◌}
use Prim.Native.Nat.{ℕ, zero, suc, ◌/◌, ◌%◌}
use Rattle.common.specs.Outcome.{Numbered}
use Rattle.common.specs.Bytes.{little_at}
use Rattle.common.proofs.Outcomes.{found-numbered, need-numbered, then-numbered, told-numbered}
use Rattle.bitmap_spec.specs.Judge.{Chunk, head_at, chunk_with, chunk, last_chunk, chunks, judge_body, judge}
use Rattle.bitmap_spec.specs.Ask.{check, probe, rank, page}
use Rattle.bitmap_spec.specs.Output.{placed, write, called}
use Rattle.bitmap_spec.specs.Sets.{combine}
use Rattle.bitmap_spec.specs.Form.{form}
use Rattle.bitmap_spec.specs.declared.ChunkHead.{ChunkHead}
use Rattle.bitmap_spec.specs.declared.Listing.{Listing}
use Rattle.bitmap_spec.specs.declared.Operation.{Operation}

chunk-with-numbered : (s : List ℕ) (n : ℕ) (h : ChunkHead) → Numbered (chunk_with s n h)
unfolding chunk_with
chunk-with-numbered s n h =
    need-numbered _ _ _ (need-numbered _ _ _ (need-numbered _ _ _
    (need-numbered _ _ _ (need-numbered _ _ _ (found-numbered _)))))

chunk-numbered : (s : List ℕ) (at n : ℕ) → Numbered (chunk s at n)
unfolding chunk
chunk-numbered s at n = need-numbered _ _ _ (need-numbered _ _ _ (chunk-with-numbered s n (head_at s at n)))

last-chunk-numbered : (s : List ℕ) (at : ℕ) (acc : List ℕ) (r : ℕ) → Numbered (last_chunk s at acc r)
unfolding last_chunk
last-chunk-numbered s at acc zero = found-numbered _
last-chunk-numbered s at acc (suc r) = told-numbered _ _ (chunk-numbered s at (suc r))

chunks-numbered : (s : List ℕ) (at : ℕ) (acc : List ℕ) (k r : ℕ) → Numbered (chunks s at acc k r)
unfolding chunks
chunks-numbered s at acc zero r = last-chunk-numbered s at acc r
chunks-numbered s at acc (suc k) r =
    then-numbered _ _ (chunk-numbered s at 256) (λ c. chunks-numbered s c.next (acc ++ c.descs) k r)

body-numbered : (s : List ℕ) (c : Chunk) → Numbered (judge_body s c)
unfolding judge_body
body-numbered s c = need-numbered _ _ _ (need-numbered _ _ _ (need-numbered _ _ _ (found-numbered _)))

pub judge-numbered : (s : List ℕ) → Numbered (judge s)
unfolding judge
judge-numbered s =
    need-numbered _ _ _ (need-numbered _ _ _ (need-numbered _ _ _
    (then-numbered _ _ (chunks-numbered s 6 [] (little_at s 4 2 / 256) (little_at s 4 2 % 256)) (body-numbered s))))

-- ---- asking
pub check-numbered : (s : List ℕ) → Numbered (check s)
unfolding check
check-numbered s = told-numbered _ _ (judge-numbered s)

pub probe-numbered : (s : List ℕ) (x : ℕ) → Numbered (probe s x)
unfolding probe
probe-numbered s x = told-numbered _ _ (judge-numbered s)

pub rank-numbered : (s : List ℕ) (x : ℕ) → Numbered (rank s x)
unfolding rank
rank-numbered s x = told-numbered _ _ (judge-numbered s)

pub page-numbered : (s : List ℕ) (at : Listing) (room : ℕ) → Numbered (page s at room)
unfolding page
page-numbered s at room = told-numbered _ _ (judge-numbered s)

-- ---- writing and combining
pub placed-numbered : (w : List ℕ) (room : ℕ) → Numbered (placed w room)
unfolding placed
placed-numbered w room = need-numbered _ _ _ (found-numbered _)

pub write-numbered : (l : List ℕ) (room : ℕ) → Numbered (write l room)
unfolding write
write-numbered l room = need-numbered _ _ _ (placed-numbered (form l) room)

pub called-numbered : (o : Operation) (a b : List ℕ) (room : ℕ) → Numbered (called o a b room)
unfolding called
called-numbered o a b room =
    then-numbered _ _ (judge-numbered a) (λ x.
    then-numbered _ _ (judge-numbered b) (λ y. placed-numbered (form (combine o x y)) room))
