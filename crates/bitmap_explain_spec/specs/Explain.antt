-- Why a bitmap is refused (02, viii): the rules of Judge in Judge's order, each with its fault: "the refusal number,
-- the first chunk (4 to 8) or container (10) at fault, counted from 0, else 0, and the byte"; "found and wanted".
use Rattle.std.specs.Prelude.{ℕ, zero, suc, ◌+◌, ◌-◌, ◌*◌, ◌/◌, ◌%◌, Bool, true, false, List, [], ◌∷◌, ◌++◌, length, get_or, take, drop, leb, ltb, eqb}
use Rattle.common.specs.Outcome.{pick, both, Outcome, refused, found}
use Rattle.common.specs.Lists.{from, rising, sum, every, table}
use Rattle.common.specs.Bytes.{little_at}
use Rattle.bitmap_spec.specs.Bits.{spare_zero}
use Rattle.bitmap_spec.specs.Judge.{head_at, chunk_end, widths_ok, descriptor, Chunk, size_of, container_ok, containers_ok}
use Rattle.bitmap_spec.specs.Judge.{members_from}
use Rattle.bitmap_spec.specs.declared.ChunkHead.{ChunkHead}

-- what is told of a refused bitmap: the refusal's number, the chunk or container at fault, the byte where it starts, and
-- what was found and wanted; all five are 0 where there is no fault
pub record Fault : Type 0 where
  pub number : ℕ
  pub index : ℕ
  pub byte : ℕ
  pub found : ℕ
  pub wanted : ℕ

-- number, index, byte, found, wanted
abbrev pub fault : ℕ → ℕ → ℕ → ℕ → ℕ → Fault
fault n i at there asked = record { number = n; index = i; byte = at; found = there; wanted = asked }

-- a fault, or what was found
pub data Told (A : Type 0) : Type 0 where
  faulty : Fault → Told A
  fine : A → Told A

-- go on with what was found; a fault stays
abbrev pub then_told : {A B : Type 0} → Told A → (A → Told B) → Told B
then_told (faulty f) g = faulty f
then_told (fine a) g = g a

-- tell the fault unless the test holds
unfoldable pub need_at : {A : Type 0} → Bool → Fault → Told A → Told A
need_at true f r = r
need_at false f r = faulty f

-- all but the number forgotten
abbrev pub numbered : {A : Type 0} → Told A → Outcome A
numbered (faulty f) = refused f.number
numbered (fine a) = found a

-- the fault told, or no fault: zeros
abbrev pub fault_of : {A : Type 0} → Told A → Fault
fault_of (faulty f) = f
fault_of (fine a) = fault 0 0 0 0 0

-- ---- the first at fault

-- how many of the list, from its first on, rise from lo on and are below n: "the first wrong exception offset" comes
-- next
unfoldable pub risen : ℕ → ℕ → List ℕ → ℕ
risen n lo [] = 0
risen n lo (x ∷ xs) = pick (both (leb lo x) (ltb x n)) (suc (risen n (suc x) xs)) 0

-- "first over 63" of f k, f (k + 1), .., n of them; 0 if there is none
unfoldable pub first_over : (ℕ → ℕ) → ℕ → ℕ → ℕ
first_over f k zero = 0
first_over f k (suc n) = pick (leb (f k) 63) (first_over f (suc k) n) (f k)

-- how many containers, from the first on, are well formed: the first at fault is the next
unfoldable pub well_formed : List ℕ → ℕ → List ℕ → ℕ
well_formed s at [] = 0
well_formed s at (d ∷ ds) = pick (container_ok s at d) (suc (well_formed s (at + size_of d) ds)) 0

-- "the first byte with spare bits set": of n values of w bits each, packed from byte at on, only the last byte has
-- spare bits
unfoldable pub spare_byte : ℕ → ℕ → ℕ → ℕ
spare_byte at w n = at + n * w / 8

-- the offsets of a chunk's exceptions
unfoldable pub offsets_of : List ℕ → ChunkHead → List ℕ
offsets_of s h = take h.e (drop h.offsets s)

-- ---- chunk i, of n descriptors, that starts at byte at

-- 4 for its arrays, 6, 7, 8
unfoldable pub explained_with : List ℕ → ℕ → ℕ → ℕ → ChunkHead → Told Chunk
explained_with s i at n h =
    need_at (leb (chunk_end h) (length s)) (fault 4 i at 0 0)
    (need_at (rising n 0 (offsets_of s h)) (fault 6 i (h.offsets + risen n 0 (offsets_of s h)) 0 0)
    (need_at (spare_zero s h.primary h.b1 n) (fault 7 i (spare_byte h.primary h.b1 n) 0 0)
    (need_at (spare_zero s h.parts h.b2 h.e) (fault 7 i (spare_byte h.parts h.b2 h.e) 0 0)
    (need_at (every (λ j. leb (descriptor s h j) 63) (from 0 n)) (fault 8 i at (first_over (descriptor s h) 0 n) 63)
    (fine (record { descs = table (descriptor s h) 0 n; next = chunk_end h }))))))

-- 4 for its three bytes, 5, then its arrays
unfoldable pub explained_chunk : List ℕ → ℕ → ℕ → ℕ → Told Chunk
explained_chunk s i at n =
    need_at (leb (at + 3) (length s)) (fault 4 i at 0 0)
    (need_at (widths_ok (head_at s at n)) (fault 5 i at 0 0)
    (explained_with s i at n (head_at s at n)))

-- ---- all chunks, from chunk i on; acc holds the descriptors so far

unfoldable pub explained_last : List ℕ → ℕ → ℕ → List ℕ → ℕ → Told Chunk
explained_last s i at acc zero = fine (record { descs = acc; next = at })
explained_last s i at acc (suc r) =
    then_told (explained_chunk s i at (suc r)) (λ c. fine (record { descs = acc ++ c.descs; next = c.next }))

unfoldable pub explained_chunks : List ℕ → ℕ → ℕ → List ℕ → ℕ → ℕ → Told Chunk
explained_chunks s i at acc zero r = explained_last s i at acc r
explained_chunks s i at acc (suc k) r =
    then_told (explained_chunk s i at 256) (λ c. explained_chunks s (suc i) c.next (acc ++ c.descs) k r)

-- ---- the whole bitmap

-- where container k starts: the first at byte at, the sizes by the descriptors
unfoldable pub container_at : ℕ → List ℕ → ℕ → ℕ
container_at at ds k = at + sum size_of (take k ds)

-- the first container that is not well formed
abbrev pub bad_container : List ℕ → ℕ → List ℕ → Fault
bad_container s at ds = fault 10 (well_formed s at ds) (container_at at ds (well_formed s at ds)) 0 0

-- after the descriptors: 9 "(bytes there, bytes the descriptors ask)", 10, 11 "(stored, counted)"
unfoldable pub explained_body : List ℕ → Chunk → Told (List ℕ)
explained_body s c =
    need_at (eqb (c.next + sum size_of c.descs) (length s))
    (fault 9 0 c.next (length s - c.next) (sum size_of c.descs))
    (need_at (containers_ok s c.next c.descs) (bad_container s c.next c.descs)
    (need_at (eqb (little_at s 1 3) (length (members_from s 0 c.next c.descs)))
    (fault 11 0 1 (little_at s 1 3) (length (members_from s 0 c.next c.descs)))
    (fine (members_from s 0 c.next c.descs))))

-- 1 "(length, 6)", 2 "(version, 1)", 3 "(count, 8,192)", then the chunks in order, then the rest
unfoldable pub explained : List ℕ → Told (List ℕ)
explained s =
    need_at (leb 6 (length s)) (fault 1 0 0 (length s) 6)
    (need_at (eqb (get_or s 0 0) 1) (fault 2 0 0 (get_or s 0 0) 1)
    (need_at (leb (little_at s 4 2) 8192) (fault 3 0 4 (little_at s 4 2) 8192)
    (then_told (explained_chunks s 0 6 [] (little_at s 4 2 / 256) (little_at s 4 2 % 256)) (explained_body s))))
