-- A turn of each filling loop.
-- Assumes nothing.
use mathlib.Core.Path.{◌≡◌, refl, sym, ap, ◌∙◌}
use mathlib.Core.Logic.{⊎_elim}
use mathlib.Core.List.{List, [], ◌∷◌, ◌++◌}
use Prim.Native.Nat.{ℕ, zero, suc, ◌+◌, ◌-◌, ◌≤◌, ◌<◌}
use native.Mathlib.Nat.{zero-add}
use Rattle.common.specs.Lists.{keep, from}
use Rattle.bitmap_spec.specs.Output.{written}
use Rattle.bitmap_laws.proofs.Cuts.{from-cat, keep_append}
use Rattle.bitmap_laws.proofs.Output.{written-more}
use Rattle.chunk_parts.specs.Kept.{is_over, offsets}
use native.Mathlib.Numerals.{add-one}
use native.Mathlib.Omega.{arith}
use borrow.Author.Tests.{lt-ltb, le-ltb}
use lib.ListN.{length, get_or, set, length-append, get_or-append}
use lib.Seq.{get_or-append_seam}
use mathlib.Core.List
use Rattle.bitmap_spec.proofs.Window

-- ---- exceptions
module _ (ws : List ℕ) (b : ℕ) where
  more : (j : ℕ) → offsets ws b (j + 1) ≡ offsets ws b j ++ keep (is_over ws b) (from j 1)
  unfolding offsets
  more j = ap (λ (l : List ℕ). keep (is_over ws b) l) (from-cat 0 j 1)
      ∙ keep_append (is_over ws b) (from 0 j) (from (0 + j) 1) ∙ rw (zero-add j)

  pub offs-on : (j : ℕ) → b < get_or ws j 0 → offsets ws b (j + 1) ≡ offsets ws b j ++ (j ∷ [])
  unfolding keep from is_over
  offs-on j h = more j ∙ rw (lt-ltb b (get_or ws j 0) h)

  pub offs-off : (j : ℕ) → get_or ws j 0 ≤ b → offsets ws b (j + 1) ≡ offsets ws b j
  unfolding keep from is_over
  offs-off j h = more j ∙ rw (le-ltb b (get_or ws j 0) h) (mathlib.Core.List.append-nil (offsets ws b j))

  pub offs-none : offsets ws b 0 ≡ []
  unfolding offsets keep from
  offs-none = refl

  pub offs-le : (j k : ℕ) → j ≤ k → length (offsets ws b j) ≤ length (offsets ws b k)
  unfolding offsets
  offs-le j k h =
      let e : k ≡ j + (k - j) = omega arith in
      let t : keep (is_over ws b) (from 0 k) ≡ keep (is_over ws b) (from 0 j) ++ keep (is_over ws b)
      (from (0 + j) (k - j)) =
      ap (λ (m : ℕ). keep (is_over ws b) (from 0 m)) e ∙ ap (λ (l : List ℕ). keep (is_over ws b) l)
      (from-cat 0 j (k - j)) ∙ keep_append (is_over ws b) (from 0 j) (from (0 + j) (k - j)) in
      omega (
        arith,
        ap length t,
        length-append (keep (is_over ws b) (from 0 j))
            (keep (is_over ws b) (from (0 + j) (k - j))),
      )

  pub offs-few : (j : ℕ) → length (offsets ws b j) ≤ j
  offs-few zero = rw offs-none (omega arith)
  offs-few (suc j) = rw (sym (add-one j)) (⊎_elim
      (λ h. rw (offs-on j h, length-append (offsets ws b j) (j ∷ [])) (omega (arith, offs-few j)))
      (λ h. rw (offs-off j h) (omega (arith, offs-few j)))
      (Rattle.bitmap_spec.proofs.Window.below_or b (get_or ws j 0)))

  -- the offsets so far
  module _ (before out : List ℕ) (at j e : ℕ) (p : e ≡ length (offsets ws b j))
      (q : out ≡ written before at (offsets ws b j)) where
    pub off-on : b < get_or ws j 0 → at + e < length before → (e + 1 ≡ length (offsets ws b (j + 1)))
        × (set out (at + e) j ≡ written before at (offsets ws b (j + 1)))
    off-on h room =
        let s = offs-on j h in (
          sym (ap length s ∙ length-append (offsets ws b j) (j ∷ []) ∙ ap (λ (k : ℕ). k + 1) (sym p)),
          rw (s, p, q) (written-more before (offsets ws b j) at j (rw (← p) room)),
        )

    pub off-off : get_or ws j 0 ≤ b → (e ≡ length (offsets ws b (j + 1)))
        × (out ≡ written before at (offsets ws b (j + 1)))
    off-off h = let s = offs-off j h in (rw s p, rw s q)

-- an offset is below the number of widths
snoc-below : (l : List ℕ) (n j : ℕ) → ((i : ℕ) → i < length l → get_or l i 0 < n) → j < length l + 1
    → get_or (l ++ (n ∷ [])) j 0 < n + 1
snoc-below l n j below h = ⊎_elim
    (λ (k : j < length l). rw (get_or-append l (n ∷ []) 0 j k) (omega (arith, below j k)))
    (λ (k : length l ≤ j). let last : j ≡ length l = omega arith in
    rw (last, get_or-append_seam l n [] 0) (omega arith))
    (Rattle.bitmap_spec.proofs.Window.below_or j (length l))

pub offs-below : (ws : List ℕ) (b n j : ℕ) → j < length (offsets ws b n) → get_or (offsets ws b n) j 0 < n
offs-below ws b zero j h = absurd (let none = ap length (offs-none ws b) in omega arith)
offs-below ws b (suc n) j h =
    let k = rw (← add-one n) at h in
    rw (← add-one n) (⊎_elim
    (λ (over : b < get_or ws n 0). rw (offs-on ws b n over)
    (snoc-below (offsets ws b n) n j (offs-below ws b n)
    (rw (offs-on ws b n over, length-append (offsets ws b n) (n ∷ [])) at k)))
    (λ (under : get_or ws n 0 ≤ b). rw (offs-off ws b n under)
    (omega (arith, offs-below ws b n j (rw (offs-off ws b n under) at k))))
    (Rattle.bitmap_spec.proofs.Window.below_or b (get_or ws n 0)))

pub room-on : (ws : List ℕ) (b j n e : ℕ) → j < n → b < get_or ws j 0 → e ≡ length (offsets ws b j)
    → e < length (offsets ws b n)
room-on ws b j n e l h p =
    omega (
      arith,
      offs-le ws b (j + 1) n (omega arith),
      ap length (offs-on ws b j h),
      length-append (offsets ws b j) (j ∷ []),
    )
