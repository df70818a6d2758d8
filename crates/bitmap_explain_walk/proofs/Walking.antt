-- Chunk by chunk and container by container: what is left to read stands for the whole.
-- Assumes nothing.
use mathlib.Core.Path.{◌≡◌, refl, sym, ap, ◌∙◌}
use mathlib.Core.Bool.{true, false}
use mathlib.Core.List.{List, ◌++◌}
use Prim.Native.Nat.{ℕ, suc, ◌+◌, ◌-◌, ◌*◌, ◌≤◌, ◌<◌}
use native.Mathlib.Nat.{zero-add}
use native.Mathlib.Numerals.{add-one}
use native.Mathlib.Omega.{arith}
use borrow.Author.Tests.{eq-eqb, ne_eqb}
use lib.ListN.{length, get_or, take, drop}
use Rattle.common.specs.Bytes.{little_at}
use Rattle.common.specs.Lists.{sum}
use Rattle.common.specs.Outcome.{refused, found}
use Rattle.bitmap_spec.specs.Judge.{Chunk, chunk, size_of, container_ok, containers_ok, members_from}
use Rattle.bitmap_spec.proofs.Reading.{chunk-sound, walk, walk_is}
use Rattle.judge.proofs.Judging.{bad, good}
use Rattle.judge.proofs.Walking.{rest-cons}
use Rattle.bitmap_explain_spec.specs.Explain.{Fault}
use Rattle.bitmap_explain_spec.specs.Explain.{fault, Told, faulty, fine, then_told, need_at, numbered}
use Rattle.bitmap_explain_spec.specs.Explain.{well_formed, container_at, explained_chunk, explained_last, explained_chunks}
use Rattle.bitmap_explain_spec.specs.Explain.{explained_body, bad_container}
use Rattle.bitmap_explain_laws.proofs.First.{sum-split}
use Rattle.bitmap_explain_laws.proofs.Number.{chunk-number, fine-found}
use Rattle.bitmap_explain_chunk.specs.Post.{Tells}
use Rattle.bitmap_explain_walk.specs.Post.{Walks}
use Rattle.std.specs.Prelude.{Ok}

-- a chunk refused has the fault that was found
pub chunk-told : (s : List ℕ) (i at n m : ℕ) (r : Fault) → chunk s at n ≡ refused m → Tells (explained_chunk s i at n) r
    → explained_chunk s i at n ≡ faulty r
chunk-told s i at n m r e t = go (explained_chunk s i at n) (chunk-number s i at n ∙ e) t
  where
    go : (u : Told Chunk) → numbered u ≡ refused m → Tells u r → u ≡ faulty r
    go (faulty f) q t = ap faulty (sym (t f refl))
    go (fine c) q t = absurd (let z : ◌≡◌ {A = ℕ} 0 1 = cc in omega arith)

module _ (s : List ℕ) (at : ℕ) (acc : List ℕ) (whole i rest : ℕ) where
  pub chunks-stop : (f : Fault) → i < whole → explained_chunk s i at 256 ≡ faulty f
      → explained_chunks s i at acc (whole - i) rest ≡ faulty f
  unfolding explained_chunks
  chunks-stop f l e =
      let a : whole - i ≡ suc (whole - (i + 1)) = omega arith in
      rw (a, e)

  chunks-step : (c : Chunk) → i < whole → explained_chunk s i at 256 ≡ fine c
      → explained_chunks s i at acc (whole - i) rest ≡ explained_chunks s (i + 1) c.next (acc ++ c.descs)
      (whole - (i + 1)) rest
  unfolding explained_chunks
  chunks-step c l e =
      let a : whole - i ≡ suc (whole - (i + 1)) = omega arith in
      rw (a, e, add-one i)

  pub chunks-none : whole ≤ i → rest ≡ 0
      → explained_chunks s i at acc (whole - i) rest ≡ fine (record { descs = acc; next = at })
  unfolding explained_chunks explained_last
  chunks-none l e =
      let a : whole - i ≡ 0 = omega arith in
      rw (a, e)

  chunks-last : whole ≡ i → (rest ≡ 0 → ⊥)
      → explained_chunks s i at acc (whole - i) rest ≡ then_told {B = Chunk} (explained_chunk s whole at rest)
      (λ c. fine (record { descs = acc ++ c.descs; next = c.next }))
  unfolding explained_chunks explained_last
  chunks-last l e =
      let a : whole - i ≡ 0 = omega arith in
      let b : rest ≡ suc (rest - 1) = omega arith in
      rw (a, l, b)

  pub last-stop : (f : Fault) → whole ≡ i → (rest ≡ 0 → ⊥) → explained_chunk s whole at rest ≡ faulty f
      → explained_chunks s i at acc (whole - i) rest ≡ faulty f
  last-stop f l e q = chunks-last l e ∙ rw q

  pub last-fine : (c : Chunk) → whole ≡ i → (rest ≡ 0 → ⊥) → chunk s at rest ≡ found c
      → explained_chunks s i at acc (whole - i) rest ≡ fine (record { descs = acc ++ c.descs; next = c.next })
  last-fine c l e q =
      chunks-last l e ∙ rw (fine-found (explained_chunk s whole at rest) c (chunk-number s whole at rest ∙ q))

-- a turn of the loop: a chunk read, its descriptors written
pub again : (s out out' : List ℕ) (at a i whole rest : ℕ) (o : Told Chunk) (c : Chunk) → i < whole
    → chunk s at 256 ≡ found c → c.next ≡ a
    → take (i * 256 + 256) out' ≡ take (i * 256) out ++ c.descs
    → explained_chunks s i at (take (i * 256) out) (whole - i) rest ≡ o
    → (a ≤ length s) × (explained_chunks s (i + 1) a (take ((i + 1) * 256) out') (whole - (i + 1)) rest ≡ o)
again s out out' at a i whole rest o c l e q h inv =
    let f : (i + 1) * 256 ≡ i * 256 + 256 = omega arith in
    let d = fine-found (explained_chunk s i at 256) c (chunk-number s i at 256 ∙ e) in (
      rw (← q) (chunk-sound s at 256 c e).ends,
      rw (f, h, ← q) (sym (chunks-step s at (take (i * 256) out) whole i rest c l d) ∙ inv),
    )

pub next : (t : Told Chunk) (len : ℕ) (after : List ℕ) (n : ℕ) (ds : List ℕ) (at : ℕ)
    → t ≡ fine (record { descs = ds; next = at }) → take n after ≡ ds → at ≤ len → Walks t len after n (Ok at)
next t len after n ds at e h l = (rw h e, l)

-- ---- containers

module _ (s d : List ℕ) (n i at : ℕ) (room : n ≤ length d) where
  pub well-bad : i < n → container_ok s at (get_or d i 0) ≡ false → well_formed s at (drop i (take n d)) ≡ 0
  unfolding well_formed
  well-bad h e = rw (rest-cons d n i room h, e)

  pub well-good : i < n → container_ok s at (get_or d i 0) ≡ true
      → well_formed s at (drop i (take n d)) ≡ suc (well_formed s (at + size_of (get_or d i 0)) (drop (i + 1) (take n d)))
  unfolding well_formed
  well-good h e = rw (rest-cons d n i room h, e)

-- the walk stopped behind i containers of descriptors ds, at byte at
pub stopped : (s ds : List ℕ) (from i at : ℕ) → from + sum size_of ds ≡ length s
    → at + sum size_of (drop i ds) ≡ length s → i ≡ well_formed s from ds → walk s from 0 ds ≡ refused 10
    → (containers_ok s from ds ≡ false) × (fault 10 i at 0 0 ≡ bad_container s from ds)
unfolding container_at
stopped s ds from i at exact left is e =
    let place : at ≡ container_at from ds i = omega (arith, sum-split ds i) in
    ((bad (containers_ok s from ds) _ 10 (sym (walk_is s 0 from 0 ds) ∙ e)).0, rw (place, is))

-- it went over all
pub passed : (s ds : List ℕ) (from members : ℕ) → walk s from 0 ds ≡ found members
    → (containers_ok s from ds ≡ true) × (members ≡ length (members_from s 0 from ds))
passed s ds from members e =
    let g = good (containers_ok s from ds) _ _ (sym (walk_is s 0 from 0 ds) ∙ e) in
    (g.0, sym g.1 ∙ zero-add _)

-- ---- the body

module _ (s ds : List ℕ) (at : ℕ) where
  pub body9 : (t : ℕ) → t ≡ sum size_of ds → (at + sum size_of ds ≡ length s → ⊥)
      → explained_body s (record { descs = ds; next = at }) ≡ faulty (fault 9 0 at (length s - at) t)
  unfolding explained_body need_at
  body9 t e h = rw (ne_eqb _ _ h, e)

  module _ (exact : at + sum size_of ds ≡ length s) where
    pub body10 : containers_ok s at ds ≡ false
        → explained_body s (record { descs = ds; next = at }) ≡ faulty (bad_container s at ds)
    unfolding explained_body need_at
    body10 h = rw (eq-eqb _ _ exact, h)

    module _ (ok : containers_ok s at ds ≡ true) (m : ℕ) (is : m ≡ length (members_from s 0 at ds)) where
      pub body11 : (little_at s 1 3 ≡ m → ⊥)
          → explained_body s (record { descs = ds; next = at }) ≡ faulty (fault 11 0 1 (little_at s 1 3) m)
      unfolding explained_body need_at
      body11 h = rw (eq-eqb _ _ exact, ok, ← is, ne_eqb _ _ h)

      pub body_ok : little_at s 1 3 ≡ m
          → explained_body s (record { descs = ds; next = at }) ≡ fine (members_from s 0 at ds)
      unfolding explained_body need_at
      body_ok h = rw (eq-eqb _ _ exact, ok, eq-eqb _ _ (h ∙ is))
