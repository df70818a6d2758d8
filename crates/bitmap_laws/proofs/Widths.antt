-- Old masks: reading asks for no cost, so each is accepted as its set and rewritten as the form; in a chunk of 256 both
-- costs are equal, so it is the form itself where every chunk is a whole one.
-- Assumes nothing.
use mathlib.Core.Path.{◌≡◌, refl, sym, ap, ap₂, ◌∙◌}
use mathlib.Core.Bool.{Bool, true, false}
use mathlib.Core.List.{List, [], ◌∷◌, ◌++◌, map}
use Prim.Native.Nat.{ℕ, zero, suc, ◌-◌, ◌*◌, ◌/◌, ◌%◌}
use native.Mathlib.Omega.{arith}
use lib.ListN.{length, take, drop, length-map, length-drop}
use lib.Seq.{length-take-le}
use Rattle.common.specs.Lists.{mem, from}
use Rattle.common.specs.Outcome.{found}
use Rattle.bitmap_spec.proofs.Examples.{computed}
use Rattle.bitmap_spec.specs.Form.{form, cut, count_of, descriptor_of, width, largest, least, cost, chunk_of}
use Rattle.bitmap_spec.specs.Judge.{judge}
use Rattle.bitmap_spec.specs.Output.{called, placed}
use Rattle.bitmap_spec.specs.Sets.{IsSet, holds, combine}
use Rattle.bitmap_spec.specs.declared.Operation.TheVariants.{Union}
use Rattle.bitmap_laws.specs.Widths.{values, chunk_by, chunks_by, cheapest_by, chosen_by, whole_cost, form_by}
use Rattle.bitmap_laws.specs.Widths.{form_of_by, old_form}
use Rattle.bitmap_laws.proofs.Accept.{judge-set}
use Rattle.bitmap_laws.proofs.Cuts.{length-cuts}
use Rattle.bitmap_laws.proofs.Length.{cost-whole}
use Rattle.bitmap_laws.proofs.Members.{ext}
use Rattle.bitmap_laws.proofs.Rise.{count-bound}
use Rattle.bitmap_laws.proofs.Round.{any-widths, form-by, form_by-is}
use Rattle.bitmap_laws.proofs.Sets.{mem-combine, set-combine}
use Rattle.bitmap_laws.proofs.Values.{chosen-le}

-- "Old masks are still accepted"
pub old-accepted : (l : List ℕ) → IsSet l → judge (old_form l) ≡ found l
unfolding old_form
old-accepted l s = any-widths (λ k. chosen_by whole_cost) (λ k. chosen-le whole_cost) l s

-- 01's bytes of {256}
pub old-256 : old_form (256 ∷ []) ≡ 0x01 ∷ 0x01 ∷ 0x00 ∷ 0x00 ∷ 0x02 ∷ 0x00 ∷ 0x10 ∷ 0x01 ∷ 0x00 ∷ 0x01 ∷ 0x80 ∷ 0x00 ∷ []
unfolding computed chunk_by chunks_by form_of_by form_by cheapest_by chosen_by whole_cost old_form
old-256 = refl

-- ---- rewriting
with_itself : (l : List ℕ) → IsSet l → combine Union l l ≡ l
with_itself l s =
    let few = count-bound l s in
    let same : (x : ℕ) → mem x (combine Union l l) ≡ mem x l = λ x. mem-combine Union l l x ∙ both (mem x l) in
    ext 2097152 0 (combine Union l l) l (set-combine Union l l few few) s same
  where
    both : (b : Bool) → holds Union b b ≡ b
    both true = refl
    both false = refl

-- the union of an accepted bitmap with itself is the form of its set
pub rewrites : (s l : List ℕ) (room : ℕ) → judge s ≡ found l → called Union s s room ≡ placed (form l) room
unfolding called
rewrites s l room e = rw (e, with_itself l (judge-set s l e))

-- ---- where every chunk is a whole one
same-choice : (c d : List ℕ → ℕ → ℕ) (vs : List ℕ) → ((b : ℕ) → c vs b ≡ d vs b) → (b : ℕ)
    → cheapest_by c vs b ≡ cheapest_by d vs b
unfolding cheapest_by
same-choice c d vs h zero = refl
same-choice c d vs h (suc b) = rw (same-choice c d vs h b, h (suc b), h (cheapest_by d vs b))

chunk_whole : (ds : List ℕ) → length ds ≡ 256 → chunk_by (chosen_by whole_cost) ds ≡ chunk_by (chosen_by cost) ds
unfolding chunk_by chosen_by
chunk_whole ds n =
    let all : length (values ds) ≡ 256 = length-map ds (λ d. d - least ds) ∙ n in
    ap (λ b. chunk_of (values ds) (least ds) b)
    (same-choice whole_cost cost (values ds) (λ b. sym (cost-whole (values ds) b all)) (largest (map width (values ds))))

chunks-whole : (k : ℕ) (ds : List ℕ) → length ds ≡ k * 256
    → chunks_by (λ i. chosen_by whole_cost) k ds ≡ chunks_by (λ i. chosen_by cost) k ds
unfolding chunks_by
chunks-whole zero [] n = refl
chunks-whole zero (d ∷ ds) n = absurd (omega arith)
chunks-whole (suc k) ds n =
    let whole : length (take 256 ds) ≡ 256 = length-take-le 256 ds (omega arith) in
    ap₂ ◌++◌ (chunk_whole (take 256 ds) whole) (chunks-whole k (drop 256 ds) (length-drop 256 ds ∙ omega arith))

-- only a last chunk of under 256 descriptors tells an old mask from the form
pub old-whole : (l : List ℕ) → count_of l % 256 ≡ 0 → old_form l ≡ form l
unfolding old_form form_by
old-whole l h =
    let cs : List (List ℕ) = map (cut l) (from 0 (count_of l)) in
    let ds = length-map (map (cut l) (from 0 (count_of l))) descriptor_of in
    let same = chunks-whole (length cs / 256) (map descriptor_of cs) (omega (arith, ds, length-cuts l)) in
    let old = form_by-is (λ k. chosen_by whole_cost) (length l) cs in
    rw (form-by l, old, form_by-is (λ k. chosen_by cost) (length l) cs, same)
