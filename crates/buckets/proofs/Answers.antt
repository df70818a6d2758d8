-- From a judged bucket to the answer of a call.
-- Assumes nothing.
use mathlib.Core.Path.{◌≡◌, refl}
use mathlib.Core.Bool.{Bool, true, false}
use mathlib.Core.List.{List}
use Prim.Native.Nat.{ℕ, ◌≤◌, ◌<◌}
use lib.ListN.{get_or}
use lib.Seq.{get_or-take}
use lib.Dec.{eqb}
use borrow.Author.Tests.{lt-ltb, le-ltb}
use Rattle.common.specs.Outcome.{pick, both, either, refused, found, need}
use Rattle.common.specs.Bytes.{low_bit}
use Rattle.row_spec.specs.Schema.{columns_of, blank_column}
use Rattle.row_spec.specs.declared.Schema.{Schema}
use Rattle.row_spec.specs.declared.Field.TheVariants.{Null}
use Rattle.bucket_spec.specs.Piece.{value_of}
use Rattle.bucket_spec.specs.Bucket.{answer, is_null, col_of, tag_of, mapped}
use Rattle.bucket_spec.specs.Read.{tag, is_mapped, bitmap_start, bitmap_of, layout_read}
use Rattle.bucket_spec.specs.declared.Bucket.{Bucket}
use Rattle.bucket_spec.specs.declared.Pieces.{Pieces}
use Rattle.bucket_parts.specs.Told.{Columns, PiecesAt}
use Rattle.value_list.specs.Cell.{null_bit}
use Rattle.bucket_piece.proofs.Encodings.{mapped-value}
use Rattle.bucket_parts.proofs.Bodies.{columns-many}

mapped-null : (s : List ℕ) (m : Bool) (p r : ℕ) → null_bit s (bitmap_of m p) r ≡ both m (eqb (low_bit s p r) 1)
mapped-null s true p r = refl
mapped-null s false p r = refl

module _ (sc : Schema) (there : Columns sc) (b : Bucket) (rows : ℕ) (s : List ℕ) (tags has r i : ℕ) where
  pub answer-row : rows ≤ r → answer (columns_of sc) rows s tags has r i (layout_read sc.count b) ≡ refused 25
  unfolding answer need
  answer-row h = rw (le-ltb r rows h)

  module _ (here : r < rows) where
    pub answer-column : sc.count ≤ i → answer (columns_of sc) rows s tags has r i (layout_read sc.count b) ≡ refused 25
    unfolding answer need
    answer-column h = rw (lt-ltb r rows here, columns-many sc there, le-ltb i sc.count h)

    pub answer-here : i < sc.count → (p : Pieces) → PiecesAt s b i p → tags ≡ b.frame.tags → has ≡ b.frame.has
        → answer (columns_of sc) rows s tags has r i (layout_read sc.count b)
        ≡ pick (either (eqb (tag p.encoding) 3) (null_bit s p.nulls r)) (found Null)
        (value_of s (get_or sc.columns i blank_column).ty (tag p.encoding) (is_mapped p.nulls) r p.start p.table
        (bitmap_start p.nulls) p.cells)
    unfolding answer need is_null col_of tag_of mapped
    answer-here h p at t u =
        rw (
          lt-ltb r rows here,
          columns-many sc there,
          lt-ltb i sc.count h,
          t,
          u,
          get_or-take sc.count sc.columns i blank_column h,
          get_or-take sc.count b.nulls i 0 h,
          get_or-take sc.count b.consts i 0 h,
          get_or-take sc.count b.tables i 0 h,
          get_or-take sc.count b.cells i 0 h,
          ← at.encoding,
          at.start,
          at.table,
          at.nulls,
          at.cells,
          mapped-null,
          mapped-value,
        )
