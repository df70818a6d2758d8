-- A column whose rows are listed by its tag lists the fields that an accepted bucket shows there.
-- Assumes nothing.
use mathlib.Core.Path.{◌≡◌, refl, sym, ◌∙◌}
use Rattle.std.specs.Prelude.{Option}
use mathlib.Core.Bool.{Bool, true, false}
use mathlib.Core.Logic.{inl}
use mathlib.Core.List.{List}
use Prim.Native.Nat.{ℕ, ◌+◌, ◌*◌}
use native.Mathlib.Omega.{arith}
use lib.ListN.{length, get_or}
use lib.Seq.{get_or-take}
use lib.Dec.{eqb}
use Rattle.common.specs.Outcome.{both}
use Rattle.common.specs.Bytes.{ceil8, low_bit}
use Rattle.row_spec.specs.Schema.{columns_of, blank_column}
use Rattle.row_spec.specs.declared.Column.{Column}
use Rattle.row_spec.specs.declared.Field.{Field}
use Rattle.row_spec.specs.declared.Field.TheVariants.{Null}
use Rattle.row_spec.specs.declared.Schema.{Schema}
use Rattle.bucket_spec.specs.Bucket.{Judged, mapped, tag_of}
use Rattle.bucket_spec.specs.Read.{tag, bitmap_of}
use Rattle.bucket_spec.specs.declared.Bucket.{Bucket}
use Rattle.bucket_spec.specs.declared.Encoding.{Encoding}
use Rattle.bucket_spec.specs.declared.Encoding.TheVariants.{Plain, Const, Dict, AllNull}
use Rattle.bucket_spec.specs.declared.Pieces.{Pieces}
use Rattle.bucket_piece.proofs.Encodings.{mapped-live}
use Rattle.bucket_parts.specs.Told.{PiecesAt}
use Rattle.bucket_parts.proofs.Bodies.{columns-many}
use Rattle.value_list.specs.Cell.{null_bit}
use Rattle.bucket_laws.specs.Shown.{column_at, tag_at, const_at, table_at, nulls_at, cells_at, NullAt, live_before}
use Rattle.bucket_laws.specs.Shown.{ConstAt, Entry, Shows}
use Rattle.bucket_laws.proofs.Answered.{null-true, null-false}
use Rattle.bucket_laws.proofs.Runs.{run-nth}
use Rattle.bucket_list.specs.declared.Rows.{Rows}
use Rattle.bucket_list.specs.Listed.{Lists, RowIs, RowsListed, ValueIs, ColumnListed, ColumnThere, judged_of}
use Rattle.bucket_list.proofs.Lists.{lists-more}

mapped-null : (s : List ℕ) (m : Bool) (p r : ℕ) → null_bit s (bitmap_of m p) r ≡ both m (eqb (low_bit s p r) 1)
mapped-null s true p r = refl
mapped-null s false p r = refl

module _ (cols : List Column) (n : ℕ) (s : List ℕ) (b : Judged) (i : ℕ) where
  -- the column's pieces, and some of its rows
  abbrev bitmap_at : Option ℕ
  bitmap_at = bitmap_of (mapped cols n s b.tags (b.tags + ceil8 (2 * length cols)) i) (nulls_at cols n s b i)

  abbrev pieces_at : Encoding → Pieces
  pieces_at e =
      record {
        encoding = e;
        start = const_at cols n s b i;
        table = table_at cols n s b i;
        nulls = bitmap_at;
        cells = cells_at cols n s b i;
      }

  abbrev rows_at : ℕ → ℕ → Rows
  rows_at p k =
      record {
        nulls = bitmap_at;
        place = p;
        given = k;
      }

  abbrev ShowsFrom : ℕ → ℕ → Field → Type 0
  ShowsFrom p m f = Shows cols n s b (p + m) i f

  module _ (p k : ℕ) (before after : List ℕ) where
    -- by what is shown of the rows that are not null, in a column that is not ALL_NULL
    tagged : (P : ℕ → Field → Type 0) → (tag_at cols n s b i ≡ 3 → ⊥)
        → ((r : ℕ) (f : Field) → Shows cols n s b r i f → (NullAt cols n s b i r → ⊥)
        → P (live_before cols n s b i r) f)
        → RowsListed P s (rows_at p k) before after → Lists (ShowsFrom p) k before after
    tagged P some value lists =
        lists-more (RowIs P s (rows_at p k)) k before (ShowsFrom p) after
        (λ m f less x. (
          λ e. x.null (null-true cols n s b i (p + m) (sym (mapped-null _ _ _ _) ∙ e)),
          λ e.
              rw mapped-live
              (value (p + m) f x (null-false cols n s b i (p + m) some (sym (mapped-null _ _ _ _) ∙ e))),
        )) lists

    column-shown : (e : Encoding) → tag_at cols n s b i ≡ tag e
        → ColumnListed s (column_at cols n s b i).ty (pieces_at e) (rows_at p k) before after
        → Lists (ShowsFrom p) k before after
    column-shown Plain e lists =
        tagged (ValueIs s (column_at cols n s b i).ty (cells_at cols n s b i)) (λ q. omega arith)
        (λ r f x w. run-nth s _ _ _ _ f (x.plain w e)) (lists.plain refl)
    column-shown Const e lists =
        tagged (λ j f. ConstAt cols n s b i f) (λ q. omega arith) (λ r f x w. x.const w e) (lists.const refl)
    column-shown Dict e lists =
        let live = live_before cols n s b i n in
        tagged (Entry s (column_at cols n s b i).ty (table_at cols n s b i) (cells_at cols n s b i) live)
        (λ q. omega arith) (λ r f x w. x.dict w e) (lists.dict refl live)
    column-shown AllNull e lists =
        lists-more (λ m f. f ≡ Null) k before (ShowsFrom p) after (λ m f less x. x.null (inl e)) (lists.nulls refl)

-- ---- as the code holds the column
pub rows-shown : (sc : Schema) (n : ℕ) (s : List ℕ) (b : Bucket) (i p k : ℕ) (q : Pieces) (before after : List ℕ)
    → ColumnThere sc b i → PiecesAt s b i q
    → ColumnListed s (get_or sc.columns i blank_column).ty q (record { nulls = q.nulls; place = p; given = k })
    before after
    → Lists (λ m f. Shows (columns_of sc) n s (judged_of sc b) (p + m) i f) k before after
unfolding mapped tag_of
rows-shown sc n s b i p k q before after there at lists =
    let less = there.there in
    column-shown (columns_of sc) n s (judged_of sc b) i p k before after q.encoding (sym at.encoding)
    (rw (
      get_or-take sc.count sc.columns i blank_column less,
      get_or-take sc.count b.consts i 0 less,
      get_or-take sc.count b.tables i 0 less,
      get_or-take sc.count b.nulls i 0 less,
      get_or-take sc.count b.cells i 0 less,
      columns-many sc there.columns,
      ← there.framed,
      ← at.encoding,
      ← at.start,
      ← at.table,
      ← at.nulls,
      ← at.cells,
    )
    lists)
