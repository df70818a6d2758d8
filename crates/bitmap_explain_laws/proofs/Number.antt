-- With all but its number forgotten the fault told is the refusal of `judge`, and there is none exactly if the bitmap
-- is accepted.
-- Assumes nothing.
use mathlib.Core.Path.{◌≡◌, refl, sym, ap, ◌∙◌}
use mathlib.Core.Logic.{◌↔◌}
use mathlib.Core.Bool.{Bool, true, false}
use mathlib.Core.List.{List, [], ◌++◌}
use Prim.Native.Nat.{ℕ, zero, suc, ◌/◌, ◌%◌}
use native.Mathlib.Omega.{arith}
use Rattle.common.specs.Bytes.{little_at}
use Rattle.common.specs.Outcome.{Outcome, refused, found, then, need}
use Rattle.bitmap_spec.specs.Judge.{head_at, Chunk, chunk_with, chunk, last_chunk, chunks, judge_body, judge}
use Rattle.bitmap_spec.specs.declared.ChunkHead.{ChunkHead}
use Rattle.bitmap_explain_spec.specs.Explain.{Fault}
use Rattle.bitmap_explain_spec.specs.Explain.{Told, faulty, fine, then_told, need_at, numbered, offsets_of}
use Rattle.bitmap_explain_spec.specs.Explain.{explained_with, explained_chunk, explained_last, explained_chunks}
use Rattle.bitmap_explain_spec.specs.Explain.{explained_body, explained}

need-number : {A : Type 0} (b : Bool) (f : Fault) (r : Told A) (o : Outcome A) → numbered r ≡ o
    → numbered (need_at b f r) ≡ need b f.number o
unfolding need_at need
need-number true f r o e = e
need-number false f r o e = refl

then-number : {A B : Type 0} (t : Told A) (o : Outcome A) (g : A → Told B) (h : A → Outcome B) → numbered t ≡ o
    → ((a : A) → numbered (g a) ≡ h a)
    → numbered (then_told t g) ≡ then o h
then-number (faulty f) o g h e k = ap (λ (z : Outcome _). then z h) e
then-number (fine a) o g h e k = k a ∙ ap (λ (z : Outcome _). then z h) e

with_number : (s : List ℕ) (i at n : ℕ) (h : ChunkHead) → numbered (explained_with s i at n h) ≡ chunk_with s n h
unfolding explained_with chunk_with offsets_of
with_number s i at n h =
    need-number _ _ _ _ (need-number _ _ _ _ (need-number _ _ _ _ (need-number _ _ _ _ (need-number _ _ _ _ refl))))

pub chunk-number : (s : List ℕ) (i at n : ℕ) → numbered (explained_chunk s i at n) ≡ chunk s at n
unfolding explained_chunk chunk
chunk-number s i at n = need-number _ _ _ _ (need-number _ _ _ _ (with_number s i at n (head_at s at n)))

last-number : (s : List ℕ) (i at : ℕ) (acc : List ℕ) (r : ℕ)
    → numbered (explained_last s i at acc r) ≡ last_chunk s at acc r
unfolding explained_last last_chunk
last-number s i at acc zero = refl
last-number s i at acc (suc r) =
    then-number (explained_chunk s i at (suc r)) (chunk s at (suc r)) _ _ (chunk-number s i at (suc r)) (λ c. refl)

pub chunks-number : (s : List ℕ) (i at : ℕ) (acc : List ℕ) (k r : ℕ)
    → numbered (explained_chunks s i at acc k r) ≡ chunks s at acc k r
unfolding explained_chunks chunks
chunks-number s i at acc zero r = last-number s i at acc r
chunks-number s i at acc (suc k) r =
    then-number (explained_chunk s i at 256) (chunk s at 256) _ _ (chunk-number s i at 256)
    (λ c. chunks-number s (suc i) c.next (acc ++ c.descs) k r)

body-number : (s : List ℕ) (c : Chunk) → numbered (explained_body s c) ≡ judge_body s c
unfolding explained_body judge_body
body-number s c = need-number _ _ _ _ (need-number _ _ _ _ (need-number _ _ _ _ refl))

-- the same refusal, the same set
pub explain-number : (s : List ℕ) → numbered (explained s) ≡ judge s
unfolding explained judge
explain-number s =
    need-number _ _ _ _ (need-number _ _ _ _ (need-number _ _ _ _
    (then-number (explained_chunks s 0 6 [] (little_at s 4 2 / 256) (little_at s 4 2 % 256)) _ _ _
    (chunks-number s 0 6 [] (little_at s 4 2 / 256) (little_at s 4 2 % 256)) (body-number s))))

-- ---- what was found is the same in both

pub fine-found : {A : Type 0} (t : Told A) (a : A) → numbered t ≡ found a → t ≡ fine a
fine-found (faulty f) a e = absurd (let z : ◌≡◌ {A = ℕ} 0 1 = cc in omega arith)
fine-found (fine b) a e = ap fine (found-is _ b a e)
  where
    found-is : (A : Type 0) (b a : A) → found b ≡ found a → b ≡ a
    found-is A b a e = cc

-- "accepted bytes give no fault", and only they
pub explain-accepts : (s l : List ℕ) → (explained s ≡ fine l) ↔ (judge s ≡ found l)
explain-accepts s l =
    (λ e. sym (explain-number s) ∙ ap numbered e, λ e. fine-found (explained s) l (explain-number s ∙ e))

-- a refusal has a fault, of its number
pub explain-refuses : (s : List ℕ) (n : ℕ) → judge s ≡ refused n
    → (f : Fault) × (explained s ≡ faulty f) × (f.number ≡ n)
explain-refuses s n e = go (explained s) refl (explain-number s ∙ e)
  where
    go : (t : Told (List ℕ)) → explained s ≡ t → numbered t ≡ refused n
        → (f : Fault) × (explained s ≡ faulty f) × (f.number ≡ n)
    go (faulty f) q e = (f, q, cc)
    go (fine l) q e = absurd (let z : ◌≡◌ {A = ℕ} 0 1 = cc in omega arith)
