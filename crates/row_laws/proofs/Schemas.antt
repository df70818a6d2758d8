-- A schema's columns, column by column, and the answer as the code holds it.
-- Assumes nothing.
use Rattle.std.specs.Prelude.{Some, None}
use mathlib.Core.Path.{◌≡◌, sym, ap, ◌∙◌}
use mathlib.Core.List.{List, [], ◌∷◌, ◌++◌}
use Prim.Native.Nat.{ℕ, suc, ◌+◌, ◌-◌, ◌≤◌, ◌<◌}
use native.Mathlib.Omega.{arith}
use borrow.Author.Tests.{eq-eqb, ne_eqb}
use lib.ListN.{length, take, drop, set, take-append-drop, get_or-eq_default}
use lib.Seq.{length-take-le, take-suc-set, drop-set-lt, drop-drop}
use native.Mathlib.Numerals.{add-one}
use Rattle.common.specs.Outcome.{Outcome, refused, found, need}
use Rattle.row_spec.specs.Read.{read}
use Rattle.row_spec.specs.Schema.{column_at, columns_from, types, type_at, held, blanks}
use Rattle.row_spec.specs.declared.Column.{Column}
use Rattle.row_spec.specs.declared.Schema.{Schema}

module _ (s : List ℕ) (n i at : ℕ) (acc : List Column) where
  module _ (more : i < n) where
    one : n - i ≡ suc (n - (i + 1))
    one = omega arith

    pub columns-bad : column_at s at ≡ None → columns_from s (n - i) at acc ≡ refused 20
    unfolding columns_from
    columns-bad e = rw (one, e)

    pub columns-more : (c : Column) (next : ℕ) → column_at s at ≡ Some (read c next)
        → columns_from s (n - i) at acc ≡ columns_from s (n - (i + 1)) next (acc ++ (c ∷ []))
    unfolding columns_from
    columns-more c next e = ap (λ (k : ℕ). columns_from s k at acc) one ∙ step
      where
        step : columns_from s (suc (n - (i + 1))) at acc ≡ columns_from s (n - (i + 1)) next (acc ++ (c ∷ []))
        step = rw e

  module _ (done : n ≤ i) where
    none : n - i ≡ 0
    none = omega arith

    pub columns-end : at ≡ length s → columns_from s (n - i) at acc ≡ found acc
    unfolding columns_from need
    columns-end e = rw (none, eq-eqb at (length s) e)

    pub columns-over : (at ≡ length s → ⊥) → columns_from s (n - i) at acc ≡ refused 20
    unfolding columns_from need
    columns-over e = rw (none, ne_eqb at (length s) e)

-- the columns read so far, and what follows them
module _ (l : List Column) (i : ℕ) (c : Column) (room : i < length l) where
  pub put-take : take (i + 1) (set l i c) ≡ take i l ++ (c ∷ [])
  put-take = rw add-one (take-suc-set l i c room)

  pub put-drop : (m : List Column) → drop i l ≡ drop i m → drop (i + 1) (set l i c) ≡ drop (i + 1) m
  put-drop m e = rw (drop-set-lt (i + 1) l i c (omega arith)) (sym (drop-drop 1 i l) ∙ ap (drop 1) e ∙ drop-drop 1 i m)

pub held_found : (l : List Column) (n : ℕ) → n ≤ length l → drop n l ≡ drop n blanks
    → ◌≡◌ {A = Outcome Schema} (found (record { columns = l; count = n })) (held (found (take n l)))
unfolding held
held_found l n h e = rw (length-take-le n l h, ← e, take-append-drop n l)

pub type-over : (s : List ℕ) (id at : ℕ) → 17 ≤ id → type_at s id at ≡ None
unfolding type_at types
type-over s id at h = get_or-eq_default (types s at) None h

pub up : (k : ℕ) {n : ℕ} → k ≤ n → (n ≡ k → ⊥) → suc k ≤ n
up k {n} h f = omega arith

pub least : (n : ℕ) → 0 ≤ n
least n = omega arith
