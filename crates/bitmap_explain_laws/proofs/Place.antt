-- A fault told of a bitmap holds of it: "the rules that come earlier in the order all hold, and this one is broken at
-- that place".
-- Assumes nothing.
use mathlib.Core.Path.{◌≡◌, refl, sym, ap, subst, ◌∙◌}
use mathlib.Core.Bool.{Bool, true, false}
use mathlib.Core.List.{List, [], ◌++◌}
use Prim.Native.Nat.{ℕ, zero, suc, ◌+◌, ◌/◌, ◌%◌, ◌≤◌, ◌<◌}
use native.Mathlib.Nat.{zero-add, add-suc, suc-add}
use native.Mathlib.Omega.{arith}
use borrow.Author.Tests.{lt-ltb, le-ltb}
use lib.ListN.{length}
use lib.Dec.{leb}
use Rattle.common.specs.Bytes.{little_at}
use Rattle.common.specs.Lists.{every, from}
use Rattle.common.specs.Outcome.{found, then}
use Rattle.bitmap_spec.specs.Judge.{head_at, descriptor, Chunk, chunk, last_chunk, chunks}
use Rattle.bitmap_laws.proofs.Accept.{then_found}
use Rattle.bitmap_explain_spec.specs.Explain.{Fault}
use Rattle.bitmap_explain_spec.specs.Explain.{fault, Told, faulty, fine, then_told, need_at, numbered, risen, first_over}
use Rattle.bitmap_explain_spec.specs.Explain.{well_formed, offsets_of, explained_with, explained_chunk}
use Rattle.bitmap_explain_spec.specs.Explain.{explained_last, explained_chunks, explained_body, explained}
use Rattle.bitmap_explain_spec.specs.Broken.{Whole, Decodes, ChunkBroken, no-three, bad-widths, no-arrays, bad-offset}
use Rattle.bitmap_explain_spec.specs.Broken.{spare-primary, spare-parts, over-63, Headed, many_in, Described, Broken}
use Rattle.bitmap_explain_spec.specs.Broken.{too_short, bad-version, bad-count, in-chunk, bad-length, bad-container}
use Rattle.bitmap_explain_spec.specs.Broken.{bad-cardinality}
use Rattle.bitmap_explain_laws.proofs.Number.{chunk-number, chunks-number}
use Rattle.bitmap_explain_laws.proofs.First.{risen-take, risen-next, over_first, over-is, well-take}
use Rattle.bitmap_explain_laws.proofs.First.{well-next}

-- where a fault comes from: this test, or what follows it
need-faulty : {A C : Type 0} (b : Bool) (f : Fault) (r : Told A) (g : Fault) → need_at b f r ≡ faulty g
    → (b ≡ false → g ≡ f → C) → (b ≡ true → r ≡ faulty g → C) → C
unfolding need_at
need-faulty true f r g e no_test yes-test = yes-test refl e
need-faulty false f r g e no_test yes-test = no_test refl cc

then-faulty : {A B C : Type 0} (t : Told A) (g : A → Told B) (f : Fault) → then_told t g ≡ faulty f
    → (t ≡ faulty f → C) → ((a : A) → t ≡ fine a → g a ≡ faulty f → C) → C
then-faulty (faulty f') g f e here later = here (ap faulty cc)
then-faulty (fine a) g f e here later = later a refl e

-- ---- a chunk

module _ (s : List ℕ) (i at n : ℕ) (f : Fault) where
  with-place : leb (at + 3) (length s) ≡ true → Rattle.bitmap_spec.specs.Judge.widths_ok (head_at s at n) ≡ true
      → explained_with s i at n (head_at s at n) ≡ faulty f → ChunkBroken s i at n f
  unfolding explained_with
  with-place three widths q =
      need-faulty _ _ _ f q (λ t e. no-arrays three widths t e) λ arrays q.
      let whole : Whole s at n = record { three = three; widths = widths; arrays = arrays } in
      need-faulty _ _ _ f q
      (λ t e. bad-offset whole (risen n 0 (offsets_of s (head_at s at n))) (risen-take n 0 (offsets_of s (head_at s at n)))
      (risen-next n 0 (offsets_of s (head_at s at n)) t) e) λ six q.
      need-faulty _ _ _ f q (λ t e. spare-primary whole six t e) λ seven q.
      need-faulty _ _ _ f q (λ t e. spare-parts whole six seven t e) λ eight q.
      need-faulty _ _ _ f q (λ t e. over (record { whole = whole; offsets = six; primary = seven; parts = eight }) t e)
      (λ t e. absurd (let z : ◌≡◌ {A = ℕ} 0 1 = cc in omega arith))
    where
      over : Decodes s at n (head_at s at n) → every (λ j. leb (descriptor s (head_at s at n) j) 63) (from 0 n) ≡ false
          → f ≡ fault 8 i at (first_over (descriptor s (head_at s at n)) 0 n) 63 → ChunkBroken s i at n f
      over d t e =
          let r = over_first (descriptor s (head_at s at n)) 0 n t in
          let o = r.1 in
          over-63 d r.0 o.within o.before (rw (zero-add r.0) at o.there)
          (e ∙ ap (λ (z : ℕ). fault 8 i at z 63) (rw (zero-add r.0) at
          (over-is (descriptor s (head_at s at n)) 0 n r.0 o)))

  pub chunk-place : explained_chunk s i at n ≡ faulty f → ChunkBroken s i at n f
  unfolding explained_chunk
  chunk-place q =
      need-faulty _ _ _ f q (λ t e. no-three t e) λ three q.
      need-faulty _ _ _ f q (λ t e. bad-widths three t e) λ widths q.
      with-place three widths q

-- ---- the chunks

last-place : (s : List ℕ) (i at : ℕ) (acc : List ℕ) (r : ℕ) (f : Fault) → explained_last s i at acc r ≡ faulty f
    → (0 < r) × ChunkBroken s i at r f
unfolding explained_last
last-place s i at acc zero f q = absurd (let z : ◌≡◌ {A = ℕ} 0 1 = cc in omega arith)
last-place s i at acc (suc r) f q = (
  omega arith,
  then-faulty (explained_chunk s i at (suc r)) _ f q (chunk-place s i at (suc r) f)
      (λ a t e. absurd (let z : ◌≡◌ {A = ℕ} 0 1 = cc in omega arith)),
)

pub found-is : (c d : Chunk) → found c ≡ found d → c ≡ d
found-is c d e = cc

-- one chunk more
chunks-more : (s : List ℕ) (at : ℕ) (acc : List ℕ) (i : ℕ) (c d : Chunk) → chunks s at acc i 0 ≡ found c
    → chunk s c.next 256 ≡ found d
    → chunks s at acc (suc i) 0 ≡ found (record { descs = c.descs ++ d.descs; next = d.next })
unfolding chunks last_chunk
chunks-more s at acc zero c d e q =
    let z : record { descs = acc; next = at } ≡ c = found-is _ c e in
    subst
    (λ (c : Chunk).
    chunk s c.next 256 ≡ found d → then {B = Chunk} (chunk s at 256)
    (λ c'. found (record { descs = acc ++ c'.descs; next = c'.next })) ≡ found
    (record { descs = c.descs ++ d.descs; next = d.next }))
    z (λ q. rw q) q
chunks-more s at acc (suc i) c d e q =
    let t = then_found (chunk s at 256) _ c e in
    rw t.1 (chunks-more s t.0.next (acc ++ t.0.descs) i c d t.2 q)

many-whole : (s : List ℕ) (i : ℕ) → i < little_at s 4 2 / 256 → many_in s i ≡ 256
unfolding many_in
many-whole s i h = rw (lt-ltb _ _ h)

many-rest : (s : List ℕ) (i : ℕ) → little_at s 4 2 / 256 ≤ i → many_in s i ≡ little_at s 4 2 % 256
unfolding many_in
many-rest s i h = rw (le-ltb _ _ h)

chunks-place : (s : List ℕ) (i at : ℕ) (acc : List ℕ) (k r : ℕ) (f : Fault) → Headed s → i + k ≡ little_at s 4 2 / 256
    → r ≡ little_at s 4 2 % 256
    → chunks s 6 [] i 0 ≡ found (record { descs = acc; next = at }) → explained_chunks s i at acc k r ≡ faulty f
    → Broken s f
unfolding explained_chunks
chunks-place s i at acc zero r f headed whole rest before q =
    let l = last-place s i at acc r f q in
    let here : many_in s i ≡ r = many-rest s i (omega arith) ∙ sym rest in
    let some = l.0 in
    in-chunk headed i (omega arith) (record { descs = acc; next = at }) before
    (subst (λ (z : ℕ). ChunkBroken s i at z f) (sym here) l.1)
chunks-place s i at acc (suc k) r f headed whole rest before q =
    then-faulty (explained_chunk s i at 256) _ f q
    (λ t. in-chunk headed i (omega arith) (record { descs = acc; next = at }) before
    (subst (λ (z : ℕ). ChunkBroken s i at z f) (sym (many-whole s i (omega arith))) (chunk-place s i at 256 f t)))
    (λ d t e. chunks-place s (suc i) d.next (acc ++ d.descs) k r f headed (rw (suc-add i k, ← add-suc i k) whole)
    rest
    (chunks-more s 6 [] i (record { descs = acc; next = at }) d before (sym (chunk-number s i at 256) ∙ ap numbered t))
    e)

-- ---- the whole bitmap

body-place : (s : List ℕ) (c : Chunk) (f : Fault) → Described s c → explained_body s c ≡ faulty f → Broken s f
unfolding explained_body
body-place s c f d q =
    need-faulty _ _ _ f q (λ t e. bad-length c d t e) λ nine q. need-faulty _ _ _ f q
    (λ t e.
    bad-container c d nine (well_formed s c.next c.descs) (well-next s c.next c.descs t).0
    (well-take s c.next c.descs) (well-next s c.next c.descs t).1 e)
    λ ten q. need-faulty _ _ _ f q (λ t e. bad-cardinality c d nine ten t e)
    (λ t e. absurd (let z : ◌≡◌ {A = ℕ} 0 1 = cc in omega arith))

none_before : (s : List ℕ) → chunks s 6 [] 0 0 ≡ found (record { descs = []; next = 6 })
unfolding chunks last_chunk
none_before s = refl

pub explain-place : (s : List ℕ) (f : Fault) → explained s ≡ faulty f → Broken s f
unfolding explained
explain-place s f q =
    need-faulty _ _ _ f q (λ t e. too_short t e) λ one q.
    need-faulty _ _ _ f q (λ t e. bad-version one t e) λ two q.
    need-faulty _ _ _ f q (λ t e. bad-count one two t e) λ three q.
    let headed : Headed s = record { long = one; version = two; count = three } in
    then-faulty (explained_chunks s 0 6 [] (little_at s 4 2 / 256) (little_at s 4 2 % 256)) (explained_body s) f q
    (chunks-place s 0 6 [] (little_at s 4 2 / 256) (little_at s 4 2 % 256) f headed (zero-add _) refl (none_before s))
    (λ c t e. body-place s c f (record {
      headed = headed;
      all = sym (chunks-number s 0 6 [] (little_at s 4 2 / 256)
          (little_at s 4 2 % 256)) ∙ ap numbered t;
    }) e)
