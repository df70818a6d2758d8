-- Of one bitmap at most one fault holds, and it is the one told.
-- Assumes nothing.
use mathlib.Core.Path.{◌≡◌, refl, sym, ap, subst, ◌∙◌}
use mathlib.Core.Bool.{Bool, true, false}
use mathlib.Core.List.{List, [], ◌++◌}
use mathlib.Core.Logic.{◌↔◌}
use Prim.Native.Nat.{ℕ, zero, suc, ◌+◌, ◌-◌, ◌*◌, ◌/◌, ◌%◌, ◌≤◌, ◌<◌}
use native.Mathlib.Nat.{add-zero, zero-add, add-suc, suc-add, not-suc-le-zero}
use native.Mathlib.Omega.{arith}
use borrow.Author.Tests.{ltb-true, ltb-false}
use lib.ListN.{length}
use lib.Dec.{leb, ltb}
use Rattle.common.specs.Bytes.{little_at}
use Rattle.common.proofs.Lists.{every-hit}
use Rattle.common.specs.Outcome.{found, pick}
use Rattle.bitmap_spec.specs.Judge.{head_at, descriptor, Chunk, chunk, last_chunk, chunks, judge}
use Rattle.bitmap_laws.proofs.Accept.{then_found}
use Rattle.bitmap_explain_spec.specs.Explain.{Fault}
use Rattle.bitmap_explain_spec.specs.Explain.{fault, Told, faulty, fine, then_told, need_at, fault_of}
use Rattle.bitmap_explain_spec.specs.Explain.{offsets_of, container_at, explained_with}
use Rattle.bitmap_explain_spec.specs.Explain.{explained_chunk, explained_last, explained_chunks, explained_body, explained}
use Rattle.bitmap_explain_spec.specs.Broken.{Whole, ChunkBroken, no-three, bad-widths, no-arrays, bad-offset}
use Rattle.bitmap_explain_spec.specs.Broken.{spare-primary, spare-parts, over-63, Headed, many_in, Described, Broken}
use Rattle.bitmap_explain_spec.specs.Broken.{too_short, bad-version, bad-count, in-chunk, bad-length, bad-container}
use Rattle.bitmap_explain_spec.specs.Broken.{bad-cardinality}
use Rattle.bitmap_explain_laws.proofs.Number.{chunk-number, chunks-number, explain-accepts}
use Rattle.bitmap_explain_laws.proofs.Number.{fine-found}
use Rattle.bitmap_explain_laws.proofs.First.{risen-is, risen-false, Over, over-is, well-is, well-false}
use Rattle.bitmap_explain_laws.proofs.Place.{found-is, explain-place}

need-false : {A : Type 0} (b : Bool) (f : Fault) (r : Told A) (g : Fault) → b ≡ false → g ≡ f → need_at b f r ≡ faulty g
unfolding need_at
need-false b f r g e q = rw e (ap faulty (sym q))

need-true : {A : Type 0} (b : Bool) (f : Fault) (r t : Told A) → b ≡ true → r ≡ t → need_at b f r ≡ t
unfolding need_at
need-true b f r t e q = rw e q

then-fault : {A B : Type 0} (t : Told A) (g : A → Told B) (f : Fault) → t ≡ faulty f → then_told t g ≡ faulty f
then-fault t g f e = rw e

then-fine : {A B : Type 0} (t : Told A) (g : A → Told B) (a : A) (u : Told B) → t ≡ fine a → g a ≡ u → then_told t g ≡ u
then-fine t g a u e q = rw e q

-- ---- a chunk

-- its arrays are there: what is told is told of them
whole-told : (s : List ℕ) (i at n : ℕ) (t : Told Chunk) → Whole s at n
    → (leb (Rattle.bitmap_spec.specs.Judge.chunk_end (head_at s at n)) (length s) ≡ true → explained_with s i at n
    (head_at s at n) ≡ t) → explained_chunk s i at n ≡ t
unfolding explained_chunk
whole-told s i at n t w k = need-true _ _ _ t w.three (need-true _ _ _ t w.widths (k w.arrays))

pub chunk-told : (s : List ℕ) (i at n : ℕ) (f : Fault) → ChunkBroken s i at n f → explained_chunk s i at n ≡ faulty f
unfolding explained_chunk explained_with
chunk-told s i at n f (no-three t e) = need-false _ _ _ f t e
chunk-told s i at n f (bad-widths a t e) = need-true _ _ _ (faulty f) a (need-false _ _ _ f t e)
chunk-told s i at n f (no-arrays a b t e) =
    need-true _ _ _ (faulty f) a (need-true _ _ _ (faulty f) b (need-false _ _ _ f t e))
chunk-told s i at n f (bad-offset w j h g e) =
    whole-told s i at n (faulty f) w λ a. need-true _ _ _ (faulty f) a
    (need-false _ _ _ f (risen-false n 0 (offsets_of s (head_at s at n)) (suc j) g)
    (e ∙ ap (λ (z : ℕ). fault 6 i ((head_at s at n).offsets + z) 0 0)
    (sym (risen-is n 0 (offsets_of s (head_at s at n)) j h g))))
chunk-told s i at n f (spare-primary w six t e) =
    whole-told s i at n (faulty f) w λ a. need-true _ _ _ (faulty f) a
    (need-true _ _ _ (faulty f) six (need-false _ _ _ f t e))
chunk-told s i at n f (spare-parts w six seven t e) =
    whole-told s i at n (faulty f) w λ a. need-true _ _ _ (faulty f) a
    (need-true _ _ _ (faulty f) six (need-true _ _ _ (faulty f) seven (need-false _ _ _ f t e)))
chunk-told s i at n f (over-63 d j l h g e) =
    let o : Over (descriptor s (head_at s at n)) 0 n j = record { within = l; before = h; there = rw (zero-add j) g } in
    whole-told s i at n (faulty f) d.whole λ a. need-true _ _ _ (faulty f) a (need-true _ _ _ (faulty f) d.offsets
    (need-true _ _ _ (faulty f) d.primary (need-true _ _ _ (faulty f) d.parts
    (need-false _ _ _ f (every-hit (λ k. leb (descriptor s (head_at s at n) k) 63) 0 n j l o.there)
    (e ∙ ap (λ (z : ℕ). fault 8 i at z 63) (sym (over-is (descriptor s (head_at s at n)) 0 n j o ∙ ap (descriptor s
    (head_at s at n)) (zero-add j))))))))

-- ---- the chunks

-- chunks that are found are passed over
chunks_past : (s : List ℕ) (j at : ℕ) (acc : List ℕ) (i k r : ℕ) (c : Chunk) → chunks s at acc i 0 ≡ found c
    → explained_chunks s j at acc (i + k) r ≡ explained_chunks s (j + i) c.next c.descs k r
unfolding chunks last_chunk explained_chunks
chunks_past s j at acc zero k r c e =
    let z : record { descs = acc; next = at } ≡ c = found-is _ c e in
    subst (λ (c : Chunk). explained_chunks s j at acc (0 + k) r ≡ explained_chunks s (j + 0) c.next c.descs k r) z
    (rw (zero-add k, add-zero j))
chunks_past s j at acc (suc i) k r c e =
    let t = then_found (chunk s at 256) _ c e in
    let d = fine-found (explained_chunk s j at 256) t.0 (chunk-number s j at 256 ∙ t.1) in
    rw (suc-add i k, add-suc j i)
    (then-fine (explained_chunk s j at 256) _ t.0 _ d (chunks_past s (suc j) t.0.next (acc ++ t.0.descs) i k r c
    t.2 ∙ rw (suc-add j i)))

last-told : (s : List ℕ) (i at : ℕ) (acc : List ℕ) (r : ℕ) (f : Fault) → 0 < r → explained_chunk s i at r ≡ faulty f
    → explained_last s i at acc r ≡ faulty f
unfolding explained_last
last-told s i at acc zero f l e = absurd (not-suc-le-zero l)
last-told s i at acc (suc r) f l e = then-fault (explained_chunk s i at (suc r)) _ f e

-- i whole chunks found, then one at fault: one more whole chunk, or the last
chunks-told : (s : List ℕ) (i w r : ℕ) (c : Chunk) (f : Fault) → chunks s 6 [] i 0 ≡ found c → i * 256 < w * 256 + r
    → r < 256
    → ChunkBroken s i c.next (pick (ltb i w) 256 r) f → explained_chunks s 0 6 [] w r ≡ faulty f
unfolding explained_chunks
chunks-told s i w r c f e l m h =
    go (ltb i w) refl h
  where
    go : (b : Bool) → ltb i w ≡ b → ChunkBroken s i c.next (pick b 256 r) f → explained_chunks s 0 6 [] w r ≡ faulty f
    go true q h =
        let g : i < w = ltb-true i w q in
        let k : w ≡ i + suc (w - suc i) = omega arith in
        subst (λ (z : ℕ). explained_chunks s 0 6 [] z r ≡ faulty f) (sym k)
        (chunks_past s 0 6 [] i (suc (w - suc i)) r c e
        ∙ rw (zero-add i) (then-fault (explained_chunk s i c.next 256) _ f (chunk-told s i c.next 256 f h)))
    go false q h =
        let g : w ≤ i = ltb-false i w q in
        let k : w ≡ i + 0 = omega arith in
        let some : 0 < r = omega arith in
        subst (λ (z : ℕ). explained_chunks s 0 6 [] z r ≡ faulty f) (sym k)
        (chunks_past s 0 6 [] i 0 r c e ∙ rw (zero-add i)
        (last-told s i c.next c.descs r f some (chunk-told s i c.next r f h)))

-- ---- the whole bitmap

headed-told : (s : List ℕ) (t : Told (List ℕ)) → Headed s
    → then_told (explained_chunks s 0 6 [] (little_at s 4 2 / 256) (little_at s 4 2 % 256)) (explained_body s) ≡ t
    → explained s ≡ t
unfolding explained
headed-told s t h e = need-true _ _ _ t h.long (need-true _ _ _ t h.version (need-true _ _ _ t h.count e))

described-told : (s : List ℕ) (c : Chunk) (t : Told (List ℕ)) → Described s c → explained_body s c ≡ t → explained s ≡ t
described-told s c t d e =
    headed-told s t d.headed
    (then-fine (explained_chunks s 0 6 [] (little_at s 4 2 / 256) (little_at s 4 2 % 256)) (explained_body s) c t
    (fine-found _ c (chunks-number s 0 6 [] (little_at s 4 2 / 256) (little_at s 4 2 % 256) ∙ d.all)) e)

-- a fault that holds is the one told
pub broken-told : (s : List ℕ) (f : Fault) → Broken s f → explained s ≡ faulty f
unfolding explained explained_body many_in
broken-told s f (too_short t e) = need-false _ _ _ f t e
broken-told s f (bad-version a t e) = need-true _ _ _ (faulty f) a (need-false _ _ _ f t e)
broken-told s f (bad-count a b t e) =
    need-true _ _ _ (faulty f) a (need-true _ _ _ (faulty f) b (need-false _ _ _ f t e))
broken-told s f (in-chunk h i l c e b) =
    headed-told s (faulty f) h (then-fault (explained_chunks s 0 6 [] (little_at s 4 2 / 256) (little_at s 4 2 % 256))
    (explained_body s) f
    (chunks-told s i (little_at s 4 2 / 256) (little_at s 4 2 % 256) c f e (omega arith) (omega arith) b))
broken-told s f (bad-length c d t e) = described-told s c (faulty f) d (need-false _ _ _ f t e)
broken-told s f (bad-container c d nine k l h g e) =
    described-told s c (faulty f) d (need-true _ _ _ (faulty f) nine
    (need-false _ _ _ f (well-false s c.next c.descs k l g)
    (e ∙ ap (λ (z : ℕ). fault 10 z (container_at c.next c.descs z) 0 0)
    (sym (well-is s c.next c.descs k l h g)))))
broken-told s f (bad-cardinality c d nine ten t e) =
    described-told s c (faulty f) d (need-true _ _ _ (faulty f) nine
    (need-true _ _ _ (faulty f) ten (need-false _ _ _ f t e)))

-- what is told is exactly what holds
pub explain-exactly : (s : List ℕ) (f : Fault) → (explained s ≡ faulty f) ↔ Broken s f
explain-exactly s f = (explain-place s f, broken-told s f)

-- of one bitmap no two faults hold
pub broken-once : (s : List ℕ) (f g : Fault) → Broken s f → Broken s g → f ≡ g
broken-once s f g a b =
    let e : ◌≡◌ {A = Told (List ℕ)} (faulty f) (faulty g) = sym (broken-told s f a) ∙ broken-told s g b in cc

-- a fault's number is one of 1 to 11, and never 0
pub broken-number : (s : List ℕ) (f : Fault) → Broken s f → (1 ≤ f.number) × (f.number ≤ 11)
broken-number s f (too_short t e) = rw e (omega arith, omega arith)
broken-number s f (bad-version a t e) = rw e (omega arith, omega arith)
broken-number s f (bad-count a b t e) = rw e (omega arith, omega arith)
broken-number s f (in-chunk h i l c e b) = chunk-one b
  where
    chunk-one : ChunkBroken s i c.next (many_in s i) f → (1 ≤ f.number) × (f.number ≤ 11)
    chunk-one (no-three t e) = rw e (omega arith, omega arith)
    chunk-one (bad-widths a t e) = rw e (omega arith, omega arith)
    chunk-one (no-arrays a b t e) = rw e (omega arith, omega arith)
    chunk-one (bad-offset w j h g e) = rw e (omega arith, omega arith)
    chunk-one (spare-primary w six t e) = rw e (omega arith, omega arith)
    chunk-one (spare-parts w six seven t e) = rw e (omega arith, omega arith)
    chunk-one (over-63 d j l h g e) = rw e (omega arith, omega arith)
broken-number s f (bad-length c d t e) = rw e (omega arith, omega arith)
broken-number s f (bad-container c d nine k l h g e) = rw e (omega arith, omega arith)
broken-number s f (bad-cardinality c d nine ten t e) = rw e (omega arith, omega arith)

-- the five numbers handed out: zeros exactly if the bitmap is accepted
pub no-fault-exactly : (s : List ℕ) → ((fault_of (explained s)).number ≡ 0) ↔ ((l : List ℕ) × (judge s ≡ found l))
no-fault-exactly s =
    (go (explained s) refl, λ a. ap (λ (t : Told (List ℕ)). (fault_of t).number) ((explain-accepts s a.0).1 a.1))
  where
    go : (t : Told (List ℕ)) → explained s ≡ t → (fault_of t).number ≡ 0 → (l : List ℕ) × (judge s ≡ found l)
    go (faulty f) e z = let n = (broken-number s f (explain-place s f e)).0 in absurd (omega (arith, n, z))
    go (fine l) e z = (l, (explain-accepts s l).0 e)
