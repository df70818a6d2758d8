-- What an accepted chunk and its containers are.
-- Assumes nothing.
use mathlib.Core.Path.{◌≡◌, refl, sym, ap, ◌∙◌}
use mathlib.Core.Bool.{Bool, true, false}
use mathlib.Core.List.{List, [], ◌∷◌, ◌++◌, map}
use Prim.Native.Nat.{ℕ, zero, suc, ◌+◌, ◌*◌, ◌≤◌}
use native.Mathlib.Nat.{add_assoc, add-zero}
use native.Mathlib.Omega.{arith}
use borrow.Author.Tests.{leb-true}
use lib.ListN.{length, length-append, length-map}
use Rattle.common.proofs.Lists.{length-table}
use Rattle.common.specs.Outcome.{Outcome, refused, found, then, need, both}
use Rattle.bitmap_spec.specs.declared.ChunkHead.{ChunkHead}
use Rattle.bitmap_spec.specs.Judge.{Chunk, descriptor, chunk, chunk_with, last_chunk, chunks, size_of, container}
use Rattle.bitmap_spec.specs.Judge.{container_ok, containers_ok, members_from}

pub need-found : {A : Type 0} (b : Bool) (n : ℕ) (r : Outcome A) (a : A) → need b n r ≡ found a → (b ≡ true) × (r ≡ found a)
unfolding need
need-found true n r a e = (refl, e)
need-found false n r a e = absurd (let z : ◌≡◌ {A = ℕ} 0 1 = cc in omega arith)

pub record Sound (s : List ℕ) (n : ℕ) (c : Chunk) : Type 0 where
  pub ends : c.next ≤ length s
  pub many : length c.descs ≡ n

with-sound : (s : List ℕ) (n : ℕ) (h : ChunkHead) (c : Chunk) → chunk_with s n h ≡ found c → Sound s n c
unfolding chunk_with
with-sound s n h c q =
    let a = need-found _ _ _ c q in
    let b = need-found _ _ _ c (need-found _ _ _ c (need-found _ _ _ c (need-found _ _ _ c a.1).1).1).1 in
    let z = found-is _ c b.1 in
    record { ends = rw (← z) (leb-true _ _ a.0); many = rw (← z) (length-table (descriptor s h) 0 n) }
  where
    found-is : (c d : Chunk) → found c ≡ found d → c ≡ d
    found-is c d e = cc

pub chunk-sound : (s : List ℕ) (at n : ℕ) (c : Chunk) → chunk s at n ≡ found c → Sound s n c
unfolding chunk
chunk-sound s at n c q = with-sound s n _ c (need-found _ _ _ c (need-found _ _ _ c q).1).1

-- where the chunks end
last-ends : (s : List ℕ) (at : ℕ) (acc : List ℕ) (r : ℕ) (c : Chunk) → at ≤ length s → last_chunk s at acc r ≡ found c
    → c.next ≤ length s
unfolding last_chunk
last-ends s at acc zero c h e = let z : at ≡ c.next = ap next_of e in rw (← z) h
  where
    next_of : Outcome Chunk → ℕ
    next_of (refused n) = 0
    next_of (found c) = c.next
last-ends s at acc (suc r) c h e = go (chunk s at (suc r)) refl e
  where
    go : (o : Outcome Chunk) → chunk s at (suc r) ≡ o
        → then o (λ d. found (record { descs = acc ++ d.descs; next = d.next })) ≡ found c → c.next ≤ length s
    go (refused n) q f = absurd (let z : ◌≡◌ {A = ℕ} 0 1 = cc in omega arith)
    go (found d) q f =
        let z : record { descs = acc ++ d.descs; next = d.next } ≡ c = cc in
        rw (← z) (chunk-sound s at (suc r) d q).ends

pub chunks-ends : (s : List ℕ) (at : ℕ) (acc : List ℕ) (k r : ℕ) (c : Chunk) → at ≤ length s
    → chunks s at acc k r ≡ found c → c.next ≤ length s
unfolding chunks
chunks-ends s at acc zero r c h e = last-ends s at acc r c h e
chunks-ends s at acc (suc k) r c h e =
    go (chunk s at 256) refl e (λ d l q. chunks-ends s d.next (acc ++ d.descs) k r c l q)
  where
    go : (o : Outcome Chunk) → chunk s at 256 ≡ o → then o (λ d. chunks s d.next (acc ++ d.descs) k r) ≡ found c
        → ((d : Chunk) → d.next ≤ length s → chunks s d.next (acc ++ d.descs) k r ≡ found c → c.next ≤ length s) →
        c.next ≤ length s
    go (refused n) q f ih = absurd (let z : ◌≡◌ {A = ℕ} 0 1 = cc in omega arith)
    go (found d) q f ih = ih d (chunk-sound s at 256 d q).ends f

-- ---- containers, one after the other, with the members counted
unfoldable pub walk : List ℕ → ℕ → ℕ → List ℕ → Outcome ℕ
walk s at card [] = found card
walk s at card (d ∷ ds) = need (container_ok s at d) 10 (walk s (at + size_of d) (card + length (container s at d)) ds)

pub walk_is : (s : List ℕ) (k at card : ℕ) (ds : List ℕ) → walk s at card ds ≡ need (containers_ok s at ds) 10 (found (card + length (members_from s k at ds)))
unfolding walk containers_ok members_from need
walk_is s k at card [] = ap found (sym (add-zero card))
walk_is s k at card (d ∷ ds) = go (container_ok s at d) (walk_is s (suc k) (at + size_of d) (card + length (container s at d)) ds)
  where
    len : card + length (container s at d) + length (members_from s (suc k) (at + size_of d) ds) ≡ card + length (map (λ j. k * 256 + j) (container s at d) ++ members_from s (suc k) (at + size_of d) ds)
    len = rw (length-append, length-map) (add_assoc card (length (container s at d)) _)

    go : (b : Bool) → walk s (at + size_of d) (card + length (container s at d)) ds ≡ need (containers_ok s (at + size_of d) ds) 10 (found (card + length (container s at d) + length (members_from s (suc k) (at + size_of d) ds)))
        → need b 10 (walk s (at + size_of d) (card + length (container s at d)) ds) ≡ need (both b (containers_ok s (at + size_of d) ds)) 10 (found (card + length (map (λ j. k * 256 + j) (container s at d) ++ members_from s (suc k) (at + size_of d) ds)))
    go true ih = ih ∙ ap (λ (z : ℕ). need (containers_ok s (at + size_of d) ds) 10 (found z)) len
    go false ih = refl
