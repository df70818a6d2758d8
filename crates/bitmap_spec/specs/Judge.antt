-- What a bitmap's bytes mean: the refusal that comes first in 01's order, or the set of its members.
use Rattle.std.specs.Prelude.{ℕ, zero, suc, ◌+◌, ◌*◌, ◌/◌, ◌%◌, ◌^◌, Bool, true, List, [], ◌∷◌, ◌++◌, map, length, get_or, take, drop, leb, ltb, eqb}
use Rattle.common.specs.Outcome.{pick, both, Outcome, found, then, need}
use Rattle.common.specs.Lists.{from, keep, rising, sum, every, table}
use Rattle.common.specs.Bytes.{ceil8, little_at}
use Rattle.bitmap_spec.specs.Bits.{bit, value, spare_zero}
use Rattle.bitmap_spec.specs.declared.ChunkHead.{ChunkHead}

-- ---- a chunk of n descriptors

-- "the primary array, ceil(n·b1/8) bytes", then "e offsets of one byte", then the parts
unfoldable pub head_with : ℕ → ℕ → ℕ → ℕ → ℕ → ℕ → ChunkHead
head_with at n b1 b2 e m = record {
  b1 = b1;
  b2 = b2;
  e = e;
  m = m;
  primary = at + 3;
  offsets = at + 3 + ceil8 (n * b1);
  parts = at + 3 + ceil8 (n * b1) + e;
}

-- "byte 0: b1 in the low four bits, b2 in the high four; byte 1: e; byte 2: m"
unfoldable pub head_at : List ℕ → ℕ → ℕ → ChunkHead
head_at s at n = head_with at n (get_or s at 0 % 16) (get_or s at 0 / 16) (get_or s (at + 1) 0) (get_or s (at + 2) 0)

-- the byte after the chunk: "ceil(e·b2/8) bytes of exception parts"
unfoldable pub chunk_end : ChunkHead → ℕ
chunk_end h = h.parts + ceil8 (h.e * h.b2)

-- "b1 is at most 8, b2 at most 8 − b1; if b1 is 8, e and b2 are 0"
unfoldable pub widths_ok : ChunkHead → Bool
widths_ok h = both (leb (h.b1 + h.b2) 8) (pick (eqb h.b1 8) (eqb h.e 0) true)

-- what the first k exceptions add to value i, in units of 2^b1
unfoldable pub part : List ℕ → ChunkHead → ℕ → ℕ → ℕ
part s h zero i = 0
part s h (suc k) i = part s h k i + pick (eqb (get_or s (h.offsets + k) 0) i) (value s h.parts h.b2 k) 0

-- "a descriptor is m + primary value, plus 2^b1 times its exception part if it has one"
unfoldable pub descriptor : List ℕ → ChunkHead → ℕ → ℕ
descriptor s h i = h.m + value s h.primary h.b1 i + part s h h.e i * 2 ^ h.b1

-- the descriptors read, and the byte after them
pub record Chunk : Type 0 where
  pub descs : List ℕ
  pub next : ℕ

-- "4 for its arrays, 6, 7, 8"
unfoldable pub chunk_with : List ℕ → ℕ → ChunkHead → Outcome Chunk
chunk_with s n h =
    need (leb (chunk_end h) (length s)) 4
    (need (rising n 0 (take h.e (drop h.offsets s))) 6
    (need (spare_zero s h.primary h.b1 n) 7
    (need (spare_zero s h.parts h.b2 h.e) 7
    (need (every (λ i. leb (descriptor s h i) 63) (from 0 n)) 8
    (found (record { descs = table (descriptor s h) 0 n; next = chunk_end h }))))))

-- "in one: 4 for its three bytes, 5", then its arrays
unfoldable pub chunk : List ℕ → ℕ → ℕ → Outcome Chunk
chunk s at n =
    need (leb (at + 3) (length s)) 4
    (need (widths_ok (head_at s at n)) 5
    (chunk_with s n (head_at s at n)))

-- ---- all chunks: "descriptors come in chunks of 256, the last holding the remainder"; acc holds the descriptors so far

unfoldable pub last_chunk : List ℕ → ℕ → List ℕ → ℕ → Outcome Chunk
last_chunk s at acc zero = found (record { descs = acc; next = at })
last_chunk s at acc (suc r) = then (chunk s at (suc r)) (λ c. found (record { descs = acc ++ c.descs; next = c.next }))

-- k whole chunks, then one of r unless r is 0
unfoldable pub chunks : List ℕ → ℕ → List ℕ → ℕ → ℕ → Outcome Chunk
chunks s at acc zero r = last_chunk s at acc r
chunks s at acc (suc k) r = then (chunk s at 256) (λ c. chunks s c.next (acc ++ c.descs) k r)

-- ---- containers

-- "0 to 31 mean a sparse container of that many bytes", "32 to 63 mean dense, 32 bytes"
unfoldable pub size_of : ℕ → ℕ
size_of d = pick (ltb d 32) d 32

-- the members of the dense container at byte at: its set bits
unfoldable pub dense : List ℕ → ℕ → List ℕ
dense s at = keep (λ j. eqb (bit s (at * 8 + j)) 1) (from 0 256)

-- the members, 0 to 255, of the container of descriptor d at byte at
unfoldable pub container : List ℕ → ℕ → ℕ → List ℕ
container s at d = pick (ltb d 32) (take d (drop at s)) (dense s at)

-- sparse: "strictly rising"; "a dense container has at least 32 members"
unfoldable pub container_ok : List ℕ → ℕ → ℕ → Bool
container_ok s at d = pick (ltb d 32) (rising 256 0 (container s at d)) (leb 32 (length (container s at d)))

unfoldable pub containers_ok : List ℕ → ℕ → List ℕ → Bool
containers_ok s at [] = true
containers_ok s at (d ∷ ds) = both (container_ok s at d) (containers_ok s (at + size_of d) ds)

-- "container k holds positions 256k to 256k + 255": the members of the containers from container k on
unfoldable pub members_from : List ℕ → ℕ → ℕ → List ℕ → List ℕ
members_from s k at [] = []
members_from s k at (d ∷ ds) = map (λ j. k * 256 + j) (container s at d) ++ members_from s (suc k) (at + size_of d) ds

-- ---- the whole bitmap

-- after the descriptors: "then 9, then 10, then 11"
unfoldable pub judge_body : List ℕ → Chunk → Outcome (List ℕ)
judge_body s c =
    need (eqb (c.next + sum size_of c.descs) (length s)) 9
    (need (containers_ok s c.next c.descs) 10
    (need (eqb (little_at s 1 3) (length (members_from s 0 c.next c.descs))) 11
    (found (members_from s 0 c.next c.descs))))

-- "version 1; cardinality in 3 bytes; container count in 2 bytes"; "1, 2, 3 first. Chunks go in order"
unfoldable pub judge : List ℕ → Outcome (List ℕ)
judge s =
    need (leb 6 (length s)) 1
    (need (eqb (get_or s 0 0) 1) 2
    (need (leb (little_at s 4 2) 8192) 3
    (then (chunks s 6 [] (little_at s 4 2 / 256) (little_at s 4 2 % 256)) (judge_body s))))
