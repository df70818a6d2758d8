-- An encoding that is not the one asked for has another tag; a bitmap that may be there.
-- Assumes nothing.
use mathlib.Core.Path.{◌≡◌, refl}
use mathlib.Core.Bool.{Bool, true, false}
use mathlib.Core.List.{List}
use Prim.Native.Nat.{ℕ}
use lib.Dec.{eqb}
use Rattle.row_spec.specs.declared.ColumnType.{ColumnType}
use Rattle.bucket_spec.specs.Piece.{live, value_of}
use Rattle.bucket_spec.specs.Read.{tag, is_mapped, bitmap_start, bitmap_of}
use denote.Enum.Bare.{sameb}
use Rattle.bucket_spec.specs.contracts.Encoding.{the_type}
use Rattle.bucket_spec.specs.declared.Encoding.{Encoding}
use Rattle.bucket_spec.specs.declared.Encoding.TheVariants.{Plain, Const, Dict, AllNull}

pub not-const : (e : Encoding) → (e ≡ Const → ⊥) → eqb (tag e) 1 ≡ false
not-const Plain h = refl
not-const Const h = absurd (h refl)
not-const Dict h = refl
not-const AllNull h = refl

pub not-dict : (e : Encoding) → (e ≡ Dict → ⊥) → eqb (tag e) 2 ≡ false
not-dict Plain h = refl
not-dict Const h = refl
not-dict Dict h = absurd (h refl)
not-dict AllNull h = refl

-- the derived test for ALL_NULL is one of the tag
pub all-null : (e : Encoding) → sameb the_type e AllNull ≡ eqb (tag e) 3
all-null Plain = refl
all-null Const = refl
all-null Dict = refl
all-null AllNull = refl

-- ---- a bitmap that may be there
module _ (s : List ℕ) (m : Bool) (p : ℕ) where
  pub mapped-live : (k : ℕ) → live s (is_mapped (bitmap_of m p)) (bitmap_start (bitmap_of m p)) k ≡ live s m p k
  unfolding live
  mapped-live k = by-test m
    where
      by-test : (b : Bool) → live s (is_mapped (bitmap_of b p)) (bitmap_start (bitmap_of b p)) k ≡ live s b p k
      by-test true = refl
      by-test false = refl

  pub mapped-value : (t : ColumnType) (tag r c table cells : ℕ)
      → value_of s t tag (is_mapped (bitmap_of m p)) r c table (bitmap_start (bitmap_of m p)) cells
      ≡ value_of s t tag m r c table p cells
  unfolding value_of
  mapped-value t tag r c table cells = rw (mapped-live r)
