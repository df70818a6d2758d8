-- The byte that a fault names lies in the bitmap, or at its end.
-- Assumes nothing.
use mathlib.Core.Path.{◌≡◌}
use mathlib.Core.Bool.{Bool, true, false}
use mathlib.Core.List.{List, [], ◌∷◌}
use Prim.Native.Nat.{ℕ, zero, suc, ◌+◌, ◌≤◌}
use native.Mathlib.Omega.{arith}
use borrow.Author.Tests.{leb-true, eqb-true}
use lib.ListN.{length, take, drop}
use lib.Dec.{leb, ltb}
use Rattle.common.specs.Bytes.{ceil8}
use Rattle.common.specs.Lists.{sum}
use Rattle.common.specs.Outcome.{pick, both}
use Rattle.bitmap_spec.specs.Judge.{head_with, head_at, chunk_end, Chunk, size_of}
use Rattle.bitmap_spec.proofs.Reading.{chunks-ends}
use Rattle.bitmap_spec.specs.declared.ChunkHead.{ChunkHead}
use Rattle.bitmap_explain_spec.specs.Explain.{Fault}
use Rattle.bitmap_explain_spec.specs.Explain.{risen, spare_byte, offsets_of, container_at}
use Rattle.bitmap_explain_spec.specs.Broken.{ChunkBroken, no-three, bad-widths, no-arrays, bad-offset}
use Rattle.bitmap_explain_spec.specs.Broken.{spare-primary, spare-parts, over-63, Headed, Described, Broken}
use Rattle.bitmap_explain_spec.specs.Broken.{too_short, bad-version, bad-count, in-chunk, bad-length, bad-container}
use Rattle.bitmap_explain_spec.specs.Broken.{bad-cardinality}
use Rattle.bitmap_explain_laws.proofs.First.{risen-is, sum-split}

risen-le : (n lo : ℕ) (l : List ℕ) → risen n lo l ≤ length l
unfolding risen
risen-le n lo [] = omega arith
risen-le n lo (x ∷ xs) = go (risen-le n (suc x) xs) (both (leb lo x) (ltb x n))
  where
    go : risen n (suc x) xs ≤ length xs → (b : Bool) → pick b (suc (risen n (suc x) xs)) 0 ≤ suc (length xs)
    go ih true = omega arith
    go ih false = omega arith

take-le : (k : ℕ) (l : List ℕ) → length (take k l) ≤ k
take-le zero l = omega arith
take-le (suc k) [] = omega arith
take-le (suc k) (x ∷ xs) = omega (arith, take-le k xs)

offsets-le : (s : List ℕ) (h : ChunkHead) → length (offsets_of s h) ≤ h.e
unfolding offsets_of
offsets-le s h = take-le h.e (drop h.offsets s)

module _ (s : List ℕ) (i at n : ℕ) (f : Fault) where
  chunk-within : at ≤ length s → ChunkBroken s i at n f → f.byte ≤ length s
  unfolding spare_byte chunk_end head_at head_with ceil8
  chunk-within l (no-three t e) = rw e l
  chunk-within l (bad-widths a t e) = rw e l
  chunk-within l (no-arrays a b t e) = rw e l
  chunk-within l (bad-offset w j h g e) =
      let is = risen-is n 0 (offsets_of s (head_at s at n)) j h g in
      let few = risen-le n 0 (offsets_of s (head_at s at n)) in
      let ends = leb-true (chunk_end (head_at s at n)) (length s) w.arrays in
      rw e (omega (arith, is, few, offsets-le s (head_at s at n), ends))
  chunk-within l (spare-primary w six t e) =
      rw e (omega (arith, leb-true (chunk_end (head_at s at n)) (length s) w.arrays))
  chunk-within l (spare-parts w six seven t e) =
      rw e (omega (arith, leb-true (chunk_end (head_at s at n)) (length s) w.arrays))
  chunk-within l (over-63 d j m h g e) = rw e l

-- a container's start
container-within : (s ds : List ℕ) (at k : ℕ) → at + sum size_of ds ≡ length s → container_at at ds k ≤ length s
unfolding container_at
container-within s ds at k e = omega (arith, sum-split ds k)

headed-long : (s : List ℕ) → Headed s → 6 ≤ length s
headed-long s h = leb-true _ _ h.long

described-ends : (s : List ℕ) (c : Chunk) → Described s c → c.next ≤ length s
described-ends s c d = chunks-ends s 6 [] _ _ c (headed-long s d.headed) d.all

pub broken-within : (s : List ℕ) (f : Fault) → Broken s f → f.byte ≤ length s
broken-within s f (too_short t e) = rw e (omega arith)
broken-within s f (bad-version a t e) = rw e (omega arith)
broken-within s f (bad-count a b t e) = rw e (omega (arith, leb-true 6 (length s) a))
broken-within s f (in-chunk h i l c e b) =
    chunk-within s i c.next _ f (chunks-ends s 6 [] i 0 c (headed-long s h) e) b
broken-within s f (bad-length c d t e) = rw e (described-ends s c d)
broken-within s f (bad-container c d nine k l h g e) =
    rw e (container-within s c.descs c.next k (eqb-true _ _ nine))
broken-within s f (bad-cardinality c d nine ten t e) = rw e (omega (arith, headed-long s d.headed))
