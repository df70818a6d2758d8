-- Accepted chunks are the written chunks of their descriptors exactly if each begins as the written one: its first
-- three bytes tell the chunk.
-- Assumes nothing.
use mathlib.Core.Path.{◌≡◌, refl, sym, ap, ap₂, ◌∙◌}
use mathlib.Core.Bool.{true}
use mathlib.Core.List.{List, [], ◌∷◌, ◌++◌, append_assoc, append-nil}
use Prim.Native.Nat.{ℕ, zero, suc, ◌+◌, ◌-◌, ◌*◌, ◌≤◌, ◌<◌}
use native.Mathlib.Omega.{arith}
use lib.ListN.{length, get_or, take, drop, length-append}
use lib.Seq.{take_at, drop_at, take-add, drop-drop, drop-append_seam}
use Rattle.common.specs.Outcome.{both, found}
use Rattle.common.proofs.Lists.{both_left, both_right}
use Rattle.common.proofs.Outcomes.{same-found, then_found}
use Rattle.bitmap_spec.specs.Judge.{Chunk, chunk, chunks, last_chunk, chunk_end, head_at}
use Rattle.bitmap_spec.specs.Form.{write_chunk, write_chunks}
use Rattle.bitmap_spec.proofs.Reading.{chunk-sound}
use Rattle.form_check.specs.Heads.{head_is, heads_are}
use Rattle.form_check.proofs.Chunks.{chunk-if, chunk-is, chunk-heads, chunk-ends}

cancel : (a x y : List ℕ) → a ++ x ≡ a ++ y → x ≡ y
cancel a x y e = sym (drop-append_seam a x) ∙ ap (drop (length a)) e ∙ drop-append_seam a y

module _ (s : List ℕ) (small : (k : ℕ) → get_or s k 0 < 256) where
  -- ---- what the chunks find goes on from what was there, and ends no earlier
  last_more : (at : ℕ) (acc : List ℕ) (r : ℕ) (c : Chunk) → last_chunk s at acc r ≡ found c
      → (es : List ℕ) × (c.descs ≡ acc ++ es) × (at ≤ c.next)
  unfolding last_chunk
  last_more at acc zero c e =
      let z : record { descs = acc; next = at } ≡ c = same-found e in
      ([], rw (← z) (sym (append-nil acc)), rw (← z) (omega arith))
  last_more at acc (suc r) c e =
      let t = then_found (chunk s at (suc r)) _ c e in
      let z : record { descs = acc ++ t.0.descs; next = t.0.next } ≡ c = same-found t.1.1 in
      let next : t.0.next ≡ c.next = ap (λ (x : Chunk). x.next) z in
      let after = (chunk-ends s at (suc r) t.0 small t.1.0).1 in
      (t.0.descs, sym (ap (λ (x : Chunk). x.descs) z), omega (arith, after, next))

  pub chunks-more : (at : ℕ) (acc : List ℕ) (k r : ℕ) (c : Chunk) → chunks s at acc k r ≡ found c
      → (es : List ℕ) × (c.descs ≡ acc ++ es) × (at ≤ c.next)
  unfolding chunks
  chunks-more at acc zero r c e = last_more at acc r c e
  chunks-more at acc (suc k) r c e =
      let t = then_found (chunk s at 256) _ c e in
      let u = chunks-more t.0.next (acc ++ t.0.descs) k r c t.1.1 in
      let first = (chunk-ends s at 256 t.0 small t.1.0).1 in
      (t.0.descs ++ u.0, u.1 ∙ append_assoc acc t.0.descs u.0, omega (arith, first, u.2))

  -- ---- one chunk, and then the others, which end at next
  two_runs : (at mid next : ℕ) → at ≤ mid → mid ≤ next
      → take (next - at) (drop at s) ≡ take (mid - at) (drop at s) ++ take (next - mid) (drop mid s)
  two_runs at mid next h g =
      let e : next - at ≡ (mid - at) + (next - mid) = omega arith in
      let f : at + (mid - at) ≡ mid = omega arith in
      rw (e, take-add (mid - at) (next - mid) (drop at s), drop-drop (mid - at) at s, f)

  module _ (at next : ℕ) (c : Chunk) (k : ℕ) (es : List ℕ) (ok : chunk s at 256 ≡ found c) (after : c.next ≤ next)
      (rest : (heads_are s c.next k es ≡ true → take (next - c.next) (drop c.next s) ≡ write_chunks k es)
      × (take (next - c.next) (drop c.next s) ≡ write_chunks k es → heads_are s c.next k es ≡ true)) where
    bytes : take (next - at) (drop at s) ≡ take (c.next - at) (drop at s) ++ take (next - c.next) (drop c.next s)
    bytes = two_runs at c.next next (chunk-ends s at 256 c small ok).1 after

    step_is : both (head_is (head_at s at 256) c.descs) (heads_are s c.next k es) ≡ true
        → take (next - at) (drop at s) ≡ write_chunk c.descs ++ write_chunks k es
    step_is e =
        bytes
        ∙ ap₂ ◌++◌ (chunk-is s at 256 c small ok (both_left (head_is (head_at s at 256) c.descs) _ e))
        (rest.0 (both_right (head_is (head_at s at 256) c.descs) _ e))

    step-heads : take (next - at) (drop at s) ≡ write_chunk c.descs ++ write_chunks k es
        → both (head_is (head_at s at 256) c.descs) (heads_are s c.next k es) ≡ true
    step-heads e =
        let all = sym bytes ∙ e in
        let head = chunk-heads s at 256 c small ok (take (next - c.next) (drop c.next s)) (write_chunks k es) all in
        let one = chunk-is s at 256 c small ok head in
        let left = rw one at all in
        rw head (rest.1 (cancel (write_chunk c.descs) _ _ left))

  -- ---- all chunks
  pub heads-if : (at : ℕ) (acc : List ℕ) (k r : ℕ) (ds : List ℕ) (next : ℕ)
      → chunks s at acc k r ≡ found (record { descs = acc ++ ds; next = next }) → r < 256 → length ds ≡ k * 256 + r
      → (heads_are s at k ds ≡ true → take (next - at) (drop at s) ≡ write_chunks k ds)
      × (take (next - at) (drop at s) ≡ write_chunks k ds → heads_are s at k ds ≡ true)
  unfolding chunks last_chunk heads_are write_chunks
  heads-if at acc zero zero [] next e h n =
      let z : at ≡ next = ap (λ (x : Chunk). x.next) (same-found e) in
      let none : next - at ≡ 0 = omega arith in
      (λ f. rw none, λ f. refl)
  heads-if at acc zero (suc r) [] next e h n = absurd (omega arith)
  heads-if at acc zero zero (d ∷ ds) next e h n = absurd (omega arith)
  heads-if at acc zero (suc r) (d ∷ ds) next e h n =
      let t = then_found (chunk s at (suc r)) _ _ e in
      let z = same-found t.1.1 in
      let descs : t.0.descs ≡ d ∷ ds = cancel acc _ _ (ap (λ (x : Chunk). x.descs) z) in
      let ends : t.0.next ≡ next = ap (λ (x : Chunk). x.next) z in
      let many : suc r ≡ suc (length ds) = omega arith in
      rw (descs, ends, many) at (chunk-if s at (suc r) t.0 small t.1.0)
  heads-if at acc (suc k) r ds next e h n =
      let t = then_found (chunk s at 256) _ _ e in
      let c : Chunk = t.0 in
      let u = chunks-more t.0.next (acc ++ t.0.descs) k r _ t.1.1 in
      let es : List ℕ = u.0 in
      let all : ds ≡ c.descs ++ es = cancel acc _ _ (u.1 ∙ append_assoc acc c.descs es) in
      let whole : length c.descs ≡ 256 = (chunk-sound s at 256 c t.1.0).many in
      let first : take 256 ds ≡ c.descs = ap (take 256) all ∙ take_at c.descs es 256 whole in
      let left : drop 256 ds ≡ es = ap (drop 256) all ∙ drop_at c.descs es 256 whole in
      let many : length es ≡ k * 256 + r = omega (arith, ap length all, length-append c.descs es) in
      let found-rest = t.1.1 ∙ ap (λ (l : List ℕ). found (record { descs = l; next = next })) u.1 in
      let rest = heads-if c.next (acc ++ c.descs) k r es next found-rest h many in
      let ends : chunk_end (head_at s at 256) ≡ c.next = sym (chunk-ends s at 256 c small t.1.0).0 in
      rw (first, left, ends)
      (step_is at next c k es t.1.0 u.2 rest, step-heads at next c k es t.1.0 u.2 rest)
