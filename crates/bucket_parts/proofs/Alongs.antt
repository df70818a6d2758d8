-- One part, column by column.
-- Assumes nothing.
use mathlib.Core.Path.{◌≡◌, ap, ◌∙◌}
use mathlib.Core.Bool.{not}
use mathlib.Core.List.{List, [], ◌∷◌, ◌++◌}
use Prim.Native.Nat.{ℕ, suc, ◌+◌, ◌-◌, ◌*◌, ◌≤◌, ◌<◌}
use native.Mathlib.Numerals.{add-one}
use native.Mathlib.Omega.{arith}
use lib.ListN.{length, get_or, take, set}
use lib.Seq.{take-suc-set, get_or-take}
use lib.Dec.{eqb}
use Rattle.common.specs.Outcome.{either, Outcome, refused, found}
use Rattle.common.specs.Bytes.{low_bits}
use Rattle.row_spec.specs.Schema.{columns_of, blank_column}
use Rattle.row_spec.specs.declared.Schema.{Schema}
use Rattle.bucket_spec.specs.Bucket.{along, col_of, tag_of, tag_allowed}

module _ (step : ℕ → ℕ → Outcome ℕ) (n i at : ℕ) (done : List ℕ) where
  module _ (more : i < n) where
    one : n - i ≡ suc (n - (i + 1))
    one = omega arith

    pub along-refused : (m : ℕ) → step i at ≡ refused m → along step i (n - i) at done ≡ refused m
    unfolding along
    along-refused m e = rw (one, e)

    pub along-more : (next : ℕ) → step i at ≡ found next
        → along step i (n - i) at done ≡ along step (i + 1) (n - (i + 1)) next (done ++ (at ∷ []))
    unfolding along
    along-more next e = ap (λ (k : ℕ). along step i k at done) one ∙ go ∙ rw add-one
      where
        go : along step i (suc (n - (i + 1))) at done ≡ along step (suc i) (n - (i + 1)) next (done ++ (at ∷ []))
        go = rw e

  pub along-done : n ≤ i → along step i (n - i) at done ≡ found (record { starts = done; next = at })
  unfolding along
  along-done h = let none : n - i ≡ 0 = omega arith in rw none

-- the starts so far are the first of the array
pub put-take : (l : List ℕ) (i at : ℕ) → i < length l → take (i + 1) (set l i at) ≡ take i l ++ (at ∷ [])
put-take l i at h = rw add-one (take-suc-set l i at h)

-- whether column j may have its tag, as the code asks for it
pub allowed-here : (sc : Schema) (n : ℕ) (s : List ℕ) (tags has j : ℕ) → j < sc.count
    → either (get_or sc.columns j blank_column).nullable (either (eqb n 0) (not (eqb (low_bits s tags (2 * j) 2) 3)))
    ≡ tag_allowed (columns_of sc) n s tags has j
unfolding tag_allowed col_of tag_of
allowed-here sc n s tags has j more = rw (get_or-take sc.count sc.columns j blank_column more)
