-- A walk over chunks that were read: each begins inside the bytes, ends where its head says, and the rest follows it.
-- Assumes nothing.
use mathlib.Core.Path.{◌≡◌, refl, sym, ap, ◌∙◌}
use mathlib.Core.Bool.{Bool, true, false}
use mathlib.Core.Logic.{◌⊎◌, inl, inr, ⊎_elim}
use mathlib.Core.List.{List, [], ◌∷◌, ◌++◌}
use Prim.Native.Nat.{ℕ, suc, ◌+◌, ◌-◌, ◌*◌, ◌/◌, ◌%◌, ◌≤◌, ◌<◌, min}
use native.Mathlib.Omega.{arith}
use borrow.Author.Tests.{leb-true}
use lib.ListN.{length, take, drop, length-append, length-drop, drop_of_length-le}
use lib.Seq.{drop-drop, take_all, take_at, drop_at}
use Rattle.common.specs.Bytes.{ceil8}
use Rattle.common.specs.Outcome.{both, found}
use Rattle.common.proofs.Lists.{both_left}
use Rattle.common.proofs.Outcomes.{then_found, same-found}
use Rattle.bitmap_spec.proofs.Window.{below_or}
use Rattle.bitmap_spec.proofs.Reading.{need-found}
use Rattle.bitmap_spec.proofs.Parts.{prod}
use Rattle.bitmap_spec.specs.Judge.{Chunk, chunk, chunks, last_chunk, chunk_with, head_at, chunk_end, widths_ok}
use Rattle.bitmap_spec.specs.declared.ChunkHead.{ChunkHead}
use Rattle.form_check.specs.Heads.{head_is, heads_are}
use Rattle.form_check.specs.Read.{Reads}

-- ---- a chunk that was read
pub record Taken (s : List ℕ) (at n : ℕ) : Type 0 where
  pub starts : at + 3 ≤ length s
  pub narrow : (head_at s at n).b1 + (head_at s at n).b2 ≤ 8
  pub ends : chunk_end (head_at s at n) ≤ length s

with-next : (s : List ℕ) (n : ℕ) (h : ChunkHead) (c : Chunk) → chunk_with s n h ≡ found c
    → (chunk_end h ≤ length s) × (c.next ≡ chunk_end h)
unfolding chunk_with
with-next s n h c q =
    let a = need-found _ _ _ c q in
    let b = need-found _ _ _ c (need-found _ _ _ c (need-found _ _ _ c (need-found _ _ _ c a.1).1).1).1 in
    (leb-true _ _ a.0, sym (ap (λ (c : Chunk). c.next) (same-found b.1)))

chunk-taken : (s : List ℕ) (at n : ℕ) (c : Chunk) → chunk s at n ≡ found c
    → Taken s at n × (c.next ≡ chunk_end (head_at s at n))
unfolding chunk widths_ok
chunk-taken s at n c q =
    let a = need-found _ _ _ c q in
    let b = need-found _ _ _ c a.1 in
    let w = with-next s n (head_at s at n) c b.1 in
    (record { starts = leb-true _ _ a.0; narrow = leb-true _ _ (both_left _ _ b.0); ends = w.0 }, w.1)

-- ---- n descriptors more are read from byte at on
pub record Left (s : List ℕ) (at n : ℕ) : Type 0 where
  pub acc : List ℕ
  pub all : Chunk
  pub says : chunks s at acc (n / 256) (n % 256) ≡ found all

pub left-start : (s ds : List ℕ) → Reads s ds → Left s 6 (length ds)
left-start s ds r = record { acc = []; all = record { descs = ds; next = r.start }; says = r.says }

left-none : (s : List ℕ) (at : ℕ) → Left s at 0
unfolding chunks last_chunk
left-none s at = record { acc = []; all = record { descs = []; next = at }; says = refl }

-- a whole chunk, and the last
whole-next : (s : List ℕ) (at k r : ℕ) (acc : List ℕ) (all : Chunk) → chunks s at acc (suc k) r ≡ found all
    → Taken s at 256 × ((more : List ℕ) × (chunks s (chunk_end (head_at s at 256)) more k r ≡ found all))
unfolding chunks
whole-next s at k r acc all q =
    let t = then_found (chunk s at 256) _ all q in
    let u = chunk-taken s at 256 t.0 t.1.0 in
    (u.0, (acc ++ t.0.descs, rw (← u.1) t.1.1))

last-next : (s : List ℕ) (at r : ℕ) (acc : List ℕ) (all : Chunk) → chunks s at acc 0 (suc r) ≡ found all
    → Taken s at (suc r)
unfolding chunks last_chunk
last-next s at r acc all q =
    let t = then_found (chunk s at (suc r)) _ all q in
    (chunk-taken s at (suc r) t.0 t.1.0).0

-- the chunk of the descriptors from i to e, of n in all
module _ (s : List ℕ) (at n i e : ℕ) (some : i < e) (upto : e ≤ n) (few : e ≤ i + 256)
    (where_to : (e ≡ i + 256) ⊎ (e ≡ n)) where
  pub left-next : Left s at (n - i) → Taken s at (e - i) × Left s (chunk_end (head_at s at (e - i))) (n - e)
  left-next l = ⊎_elim whole (λ q. ⊎_elim (last q) (λ g. whole (omega arith)) (below_or e (i + 256))) where_to
    where
      whole : e ≡ i + 256 → Taken s at (e - i) × Left s (chunk_end (head_at s at (e - i))) (n - e)
      whole q =
          let a : (n - i) / 256 ≡ suc ((n - e) / 256) = omega arith in
          let b : (n - i) % 256 ≡ (n - e) % 256 = omega arith in
          let c : e - i ≡ 256 = omega arith in
          let t = whole-next s at ((n - e) / 256) ((n - e) % 256) l.acc l.all (rw (a, b) at l.says) in
          rw c (t.0, record { acc = t.1.0; all = l.all; says = t.1.1 })

      last : e ≡ n → e < i + 256 → Taken s at (e - i) × Left s (chunk_end (head_at s at (e - i))) (n - e)
      last q g =
          let a : (n - i) / 256 ≡ 0 = omega arith in
          let b : (n - i) % 256 ≡ suc (e - i - 1) = omega arith in
          let c : e - i ≡ suc (e - i - 1) = omega arith in
          let d : n - e ≡ 0 = omega arith in
          let t = last-next s at (e - i - 1) l.acc l.all (rw (a, b) at l.says) in
          (rw c t, rw d (left-none s (chunk_end (head_at s at (e - i)))))

-- ---- the heads from descriptor i on, where the chunk at byte at begins
unfoldable pub rest_heads : List ℕ → ℕ → List ℕ → ℕ → Bool
rest_heads s at ds i = heads_are s at ((length ds - i) / 256) (drop i ds)

pub rest_all : (s ds : List ℕ) → rest_heads s 6 ds 0 ≡ heads_are s 6 (length ds / 256) ds
unfolding rest_heads
rest_all s ds = let e : length ds - 0 ≡ length ds = omega arith in rw e

pub rest-none : (s ds : List ℕ) (at i : ℕ) → length ds ≤ i → rest_heads s at ds i ≡ true
unfolding rest_heads heads_are
rest-none s ds at i h =
    let e : (length ds - i) / 256 ≡ 0 = omega arith in
    rw (e, drop_of_length-le ds h)

both_true : (b : Bool) → b ≡ both b true
both_true true = refl
both_true false = refl

last-head : (s l : List ℕ) (at : ℕ) → 0 < length l → heads_are s at 0 l ≡ head_is (head_at s at (length l)) l
unfolding heads_are
last-head s [] at h = absurd (omega arith)
last-head s (x ∷ xs) at h = refl

module _ (s ds : List ℕ) (at i e : ℕ) (some : i < e) (upto : e ≤ length ds) (few : e ≤ i + 256)
    (where_to : (e ≡ i + 256) ⊎ (e ≡ length ds)) where
  pub rest-next : rest_heads s at ds i
      ≡ both (head_is (head_at s at (e - i)) (take (e - i) (drop i ds)))
      (rest_heads s (chunk_end (head_at s at (e - i))) ds e)
  unfolding rest_heads heads_are
  rest-next = ⊎_elim whole (λ q. ⊎_elim (last q) (λ g. whole (omega arith)) (below_or e (i + 256))) where_to
    where
      whole : e ≡ i + 256 → rest_heads s at ds i
          ≡ both (head_is (head_at s at (e - i)) (take (e - i) (drop i ds)))
          (rest_heads s (chunk_end (head_at s at (e - i))) ds e)
      whole q =
          let a : (length ds - i) / 256 ≡ suc ((length ds - e) / 256) = omega arith in
          let b : e - i ≡ 256 = omega arith in
          rw (a, b) (ap (λ (l : List ℕ). both (head_is (head_at s at 256) (take 256 (drop i ds)))
          (heads_are s (chunk_end (head_at s at 256)) ((length ds - e) / 256) l))
          (drop-drop 256 i ds ∙ ap (λ (k : ℕ). drop k ds) (sym q)))

      last : e ≡ length ds → e < i + 256 → rest_heads s at ds i
          ≡ both (head_is (head_at s at (e - i)) (take (e - i) (drop i ds)))
          (rest_heads s (chunk_end (head_at s at (e - i))) ds e)
      last q g =
          let a : (length ds - i) / 256 ≡ 0 = omega arith in
          let n : length (drop i ds) ≡ e - i = length-drop i ds ∙ omega arith in
          rw (
            rest-none s ds (chunk_end (head_at s at (e - i))) e (omega arith),
            a,
            take_all (e - i) (drop i ds) (omega arith),
            ← both_true,
          )
          (last-head s (drop i ds) at (omega arith) ∙ rw n)

  -- by what the head's comparison says
  module _ (h : ChunkHead) (is : h ≡ head_at s at (e - i)) where
    pub rest-stop : head_is h (take (e - i) (drop i ds)) ≡ false → rest_heads s at ds i ≡ false
    rest-stop fails = rest-next ∙ rw (← is, fails)

    pub rest-go : head_is h (take (e - i) (drop i ds)) ≡ true
        → rest_heads s (chunk_end (head_at s at (e - i))) ds e ≡ rest_heads s at ds i
    rest-go holds = sym (rest-next ∙ rw (← is, holds))

-- ---- a part of 256 descriptors, or all that are left, comes off the front
module _ (s ds part rest : List ℕ) (at : ℕ) (e : ds ≡ part ++ rest) (n : length part ≡ min 256 (length ds))
    (some : 0 < length ds) where
  long : length ds ≡ length part + length rest
  long = ap length e ∙ length-append part rest

  full_or_all : (length part ≡ 0 + 256) ⊎ (length part ≡ length ds)
  full_or_all = ⊎_elim (λ h. inr (omega arith)) (λ h. inl (omega arith)) (below_or (length ds) 256)

  none : length ds - 0 ≡ length ds
  none = omega arith

  none' : length part - 0 ≡ length part
  none' = omega arith

  behind : length ds - length part ≡ length rest
  behind = omega (arith, long)

  pub front-next : Left s at (length ds)
      → Taken s at (length part) × Left s (chunk_end (head_at s at (length part))) (length rest)
  front-next l =
      rw (none', behind) at
      (left-next s at (length ds) 0 (length part) (omega (arith, n)) (omega (arith, long)) (omega (arith, n))
      full_or_all (rw none l))

  heads_on : heads_are s at (length ds / 256) ds
      ≡ both (head_is (head_at s at (length part)) part)
      (heads_are s (chunk_end (head_at s at (length part))) (length rest / 256) rest)
  unfolding rest_heads
  heads_on =
      let part_is : take (length part) ds ≡ part = rw e (take_at part rest (length part) refl) in
      let rest_is : drop (length part) ds ≡ rest = rw e (drop_at part rest (length part) refl) in
      rw (none, none', part_is, behind, rest_is) at
      (rest-next s ds at 0 (length part) (omega (arith, n)) (omega (arith, long)) (omega (arith, n)) full_or_all)

  -- by what the head's comparison says
  module _ (h : ChunkHead) (is : h ≡ head_at s at (length part)) where
    pub front-stop : head_is h part ≡ false → heads_are s at (length ds / 256) ds ≡ false
    front-stop fails = heads_on ∙ rw (← is, fails)

    pub front-go : head_is h part ≡ true
        → heads_are s (chunk_end (head_at s at (length part))) (length rest / 256) rest ≡ heads_are s at (length ds / 256) ds
    front-go holds = sym (heads_on ∙ rw (← is, holds))

pub heads_none : (s ds : List ℕ) (at : ℕ) → length ds ≡ 0 → heads_are s at (length ds / 256) ds ≡ true
unfolding heads_are
heads_none s [] at h = refl
heads_none s (d ∷ ds) at h = absurd (omega arith)

-- ---- where the next chunk begins, as it is computed
module _ (s : List ℕ) (at n : ℕ) (t : Taken s at n) (h : ChunkHead) (is : h ≡ head_at s at n) where
  pub next-is : h.parts + (h.e * h.b2 + 7) / 8 ≡ chunk_end (head_at s at n)
  unfolding chunk_end ceil8
  next-is = ap (λ (h : ChunkHead). h.parts + (h.e * h.b2 + 7) / 8) is

  pub next-in : h.parts + (h.e * h.b2 + 7) / 8 ≤ length s
  next-in = rw next-is t.ends

  pub parts-few : h.e < 256 → h.e * h.b2 ≤ 2048
  parts-few few = prod 256 8 h.e h.b2 (omega arith) (rw is (omega (arith, t.narrow)))
