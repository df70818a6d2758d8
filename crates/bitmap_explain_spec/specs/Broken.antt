-- What it means that a fault holds of a bitmap's bytes, in Judge's own words and without `explained`: "The rules that
-- come earlier in the order all hold, and this one is broken at that place." A case for each rule.
use Rattle.std.specs.Prelude.{ℕ, suc, ◌+◌, ◌-◌, ◌*◌, ◌/◌, ◌%◌, ◌<◌, ◌≡◌, true, false, List, [], length, get_or, take, leb, ltb, eqb}
use Rattle.common.specs.Outcome.{pick, found}
use Rattle.common.specs.Lists.{from, rising, sum, every}
use Rattle.common.specs.Bytes.{little_at}
use Rattle.bitmap_spec.specs.Bits.{spare_zero}
use Rattle.bitmap_spec.specs.Judge.{head_at, chunk_end, widths_ok, descriptor, Chunk, chunks, size_of, container_ok}
use Rattle.bitmap_spec.specs.Judge.{containers_ok, members_from}
use Rattle.bitmap_spec.specs.declared.ChunkHead.{ChunkHead}
use Rattle.bitmap_explain_spec.specs.Explain.{Fault, fault, spare_byte, offsets_of, container_at}

-- ---- chunk i, of n descriptors, that starts at byte at

-- its three bytes are there, its widths are right, its arrays are there
pub record Whole (s : List ℕ) (at n : ℕ) : Type 0 where
  pub three : leb (at + 3) (length s) ≡ true
  pub widths : widths_ok (head_at s at n) ≡ true
  pub arrays : leb (chunk_end (head_at s at n)) (length s) ≡ true

-- 4 to 7 hold of the chunk, and its descriptors are read
pub record Decodes (s : List ℕ) (at n : ℕ) (h : ChunkHead) : Type 0 where
  pub whole : Whole s at n
  pub offsets : rising n 0 (offsets_of s h) ≡ true
  pub primary : spare_zero s h.primary h.b1 n ≡ true
  pub parts : spare_zero s h.parts h.b2 h.e ≡ true

-- one of 4 to 8 is broken in the chunk, and the rules before it hold
pub data ChunkBroken (s : List ℕ) (i at n : ℕ) (f : Fault) : Type 0 where
  no-three : leb (at + 3) (length s) ≡ false → f ≡ fault 4 i at 0 0 → ChunkBroken s i at n f
  bad-widths : leb (at + 3) (length s) ≡ true → widths_ok (head_at s at n) ≡ false → f ≡ fault 5 i at 0 0
      → ChunkBroken s i at n f
  no-arrays : leb (at + 3) (length s) ≡ true → widths_ok (head_at s at n) ≡ true
      → leb (chunk_end (head_at s at n)) (length s) ≡ false
      → f ≡ fault 4 i at 0 0 → ChunkBroken s i at n f
  -- the offsets before offset j are right, with offset j they are not
  bad-offset : Whole s at n → (j : ℕ)
      → rising n 0 (take j (offsets_of s (head_at s at n))) ≡ true
      → rising n 0 (take (suc j) (offsets_of s (head_at s at n))) ≡ false
      → f ≡ fault 6 i ((head_at s at n).offsets + j) 0 0 → ChunkBroken s i at n f
  spare-primary : Whole s at n → rising n 0 (offsets_of s (head_at s at n)) ≡ true
      → spare_zero s (head_at s at n).primary (head_at s at n).b1 n ≡ false
      → f ≡ fault 7 i (spare_byte (head_at s at n).primary (head_at s at n).b1 n) 0 0 → ChunkBroken s i at n f
  spare-parts : Whole s at n → rising n 0 (offsets_of s (head_at s at n)) ≡ true
      → spare_zero s (head_at s at n).primary (head_at s at n).b1 n ≡ true
      → spare_zero s (head_at s at n).parts (head_at s at n).b2 (head_at s at n).e ≡ false
      → f ≡ fault 7 i (spare_byte (head_at s at n).parts (head_at s at n).b2 (head_at s at n).e) 0 0
      → ChunkBroken s i at n f
  -- the descriptors before descriptor j are at most 63, descriptor j is not
  over-63 : Decodes s at n (head_at s at n) → (j : ℕ) → j < n
      → every (λ k. leb (descriptor s (head_at s at n) k) 63) (from 0 j) ≡ true
      → leb (descriptor s (head_at s at n) j) 63 ≡ false
      → f ≡ fault 8 i at (descriptor s (head_at s at n) j) 63 → ChunkBroken s i at n f

-- ---- the whole bitmap

-- 1 to 3 hold
pub record Headed (s : List ℕ) : Type 0 where
  pub long : leb 6 (length s) ≡ true
  pub version : eqb (get_or s 0 0) 1 ≡ true
  pub count : leb (little_at s 4 2) 8192 ≡ true

-- "descriptors come in chunks of 256, the last holding the remainder": how many chunk i holds
unfoldable pub many_in : List ℕ → ℕ → ℕ
many_in s i = pick (ltb i (little_at s 4 2 / 256)) 256 (little_at s 4 2 % 256)

-- 1 to 8 hold, and c has the descriptors of all chunks and the byte after them
pub record Described (s : List ℕ) (c : Chunk) : Type 0 where
  pub headed : Headed s
  pub all : chunks s 6 [] (little_at s 4 2 / 256) (little_at s 4 2 % 256) ≡ found c

pub data Broken (s : List ℕ) (f : Fault) : Type 0 where
  too_short : leb 6 (length s) ≡ false → f ≡ fault 1 0 0 (length s) 6 → Broken s f
  bad-version : leb 6 (length s) ≡ true → eqb (get_or s 0 0) 1 ≡ false → f ≡ fault 2 0 0 (get_or s 0 0) 1 → Broken s f
  bad-count : leb 6 (length s) ≡ true → eqb (get_or s 0 0) 1 ≡ true → leb (little_at s 4 2) 8192 ≡ false
      → f ≡ fault 3 0 4 (little_at s 4 2) 8192 → Broken s f
  -- the i chunks before it are found, and end where it starts; it has a descriptor
  in-chunk : Headed s → (i : ℕ) → i * 256 < little_at s 4 2 → (c : Chunk) → chunks s 6 [] i 0 ≡ found c
      → ChunkBroken s i c.next (many_in s i) f → Broken s f
  bad-length : (c : Chunk) → Described s c → eqb (c.next + sum size_of c.descs) (length s) ≡ false
      → f ≡ fault 9 0 c.next (length s - c.next) (sum size_of c.descs) → Broken s f
  -- the containers before container k are well formed, container k is not
  bad-container : (c : Chunk) → Described s c → eqb (c.next + sum size_of c.descs) (length s) ≡ true
      → (k : ℕ) → k < length c.descs
      → containers_ok s c.next (take k c.descs) ≡ true
      → container_ok s (container_at c.next c.descs k) (get_or c.descs k 0) ≡ false
      → f ≡ fault 10 k (container_at c.next c.descs k) 0 0 → Broken s f
  bad-cardinality : (c : Chunk) → Described s c → eqb (c.next + sum size_of c.descs) (length s) ≡ true
      → containers_ok s c.next c.descs ≡ true
      → eqb (little_at s 1 3) (length (members_from s 0 c.next c.descs)) ≡ false
      → f ≡ fault 11 0 1 (little_at s 1 3) (length (members_from s 0 c.next c.descs)) → Broken s f
