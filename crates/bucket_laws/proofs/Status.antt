-- No question about a bucket is refused with 0.
-- Assumes nothing.
use mathlib.Core.Path.{◌≡◌}
use mathlib.Core.List.{List, [], ◌∷◌, ◌++◌}
use mathlib.Core.Bool.{Bool, true}
use Prim.Native.Nat.{ℕ, zero, suc, ◌+◌, ◌*◌}
use lib.ListN.{length}
use lib.Dec.{eqb}
use Rattle.common.specs.Outcome.{Outcome, found, status, Numbered}
use Rattle.common.specs.Bytes.{ceil8}
use Rattle.common.proofs.Outcomes.{found-numbered, need-numbered, pick-numbered, then-numbered}
use Rattle.common.proofs.Outcomes.{told-numbered, zero-found, then_found}
use Rattle.row_spec.specs.Varint.{varint_at}
use Rattle.row_spec.specs.Schema.{schema}
use Rattle.row_spec.specs.Value.{value_at}
use Rattle.std.specs.Prelude.{Result}
use Rattle.row_spec.specs.declared.Varint.{Varint}
use Rattle.row_spec.specs.declared.ReadFault.{ReadFault}
use Rattle.row_spec.specs.declared.Column.{Column}
use Rattle.row_spec.specs.declared.ColumnType.{ColumnType}
use Rattle.row_spec.specs.declared.Field.{Field}
use Rattle.row_spec.specs.declared.Field.TheVariants.{Null}
use Rattle.row_laws.proofs.Status.{schema-numbered, on-varint-numbered, on-value-numbered}
use Rattle.bucket_spec.specs.Piece.{values, here_of, nth, table_of, const_piece}
use Rattle.bucket_spec.specs.Piece.{table_piece, nulls_piece, live, indexes, data_piece, piece, entry_of, value_of}
use Rattle.bucket_spec.specs.Bucket.{Judged, Layout, along, piece_of, parts, body, is_null, answer, head_number}
use Rattle.bucket_spec.specs.Bucket.{tags_at}
use Rattle.bucket_spec.specs.Bucket.{bucket, bucket_refusal, bucket_field}
use Rattle.bucket_spec.specs.Page.{answers, column, bucket_page}

-- ---- values
module _ (s : List ℕ) (t : ColumnType) where
  values-numbered : (m at : ℕ) → Numbered (values s t m at)
  unfolding values
  values-numbered zero at = found-numbered _
  values-numbered (suc m) at =
      on-value-numbered (value_at true s at t) _ _ _ (λ f next. values-numbered m next)

  here-numbered : (p : ℕ) → Numbered (here_of s t p)
  unfolding here_of
  here-numbered p =
      on-value-numbered (value_at true s p t) _ _ _ (λ f next. found-numbered f)

  nth-numbered : (at j : ℕ) → Numbered (nth s t at j)
  unfolding nth
  nth-numbered at j = then-numbered (values s t j at) (here_of s t) (values-numbered j at) here-numbered

  entry-numbered : (j table cells : ℕ) → Numbered (entry_of s t j table cells)
  unfolding entry_of
  entry-numbered j table cells = nth-numbered _ _

  value-numbered : (tag : ℕ) (m : Bool) (r const table nulls cells : ℕ)
      → Numbered (value_of s t tag m r const table nulls cells)
  unfolding value_of
  value-numbered tag m r const table nulls cells =
      pick-numbered (eqb tag 1) _ _ (nth-numbered const 0)
      (pick-numbered (eqb tag 0) _ _ (nth-numbered cells (live s m nulls r))
      (entry-numbered (live s m nulls r) table cells))

  -- ---- one column's pieces
  const-numbered : (tag at : ℕ) → Numbered (const_piece s t tag at)
  unfolding const_piece
  const-numbered tag at = pick-numbered (eqb tag 1) _ _ (values-numbered 1 at) (found-numbered at)

  table-of-numbered : (r : Result Varint ReadFault) → Numbered (table_of s t r)
  unfolding table_of
  table-of-numbered r =
      on-varint-numbered r _ _ _ (λ e next.
      need-numbered _ _ _ (values-numbered e next))

  table-numbered : (tag at : ℕ) → Numbered (table_piece s t tag at)
  unfolding table_piece
  table-numbered tag at = pick-numbered (eqb tag 2) _ _ (table-of-numbered (varint_at s at)) (found-numbered at)

  nulls-numbered : (nullable mapped : Bool) (n at : ℕ) → Numbered (nulls_piece s nullable mapped n at)
  unfolding nulls_piece
  nulls-numbered nullable mapped n at =
      pick-numbered mapped _ _
      (need-numbered _ _ _ (need-numbered _ _ _ (need-numbered _ _ _ (found-numbered (at + ceil8 n)))))
      (found-numbered at)

  indexes-numbered : (at m w e : ℕ) → Numbered (indexes s at m w e)
  unfolding indexes
  indexes-numbered at m w e = need-numbered _ _ _ (need-numbered _ _ _ (need-numbered _ _ _ (found-numbered _)))

  data-numbered : (tag m table at : ℕ) → Numbered (data_piece s t tag m table at)
  unfolding data_piece
  data-numbered tag m table at =
      pick-numbered (eqb tag 0) _ _ (values-numbered m at)
      (pick-numbered (eqb tag 2) _ _ (indexes-numbered at m _ _) (found-numbered at))

piece-numbered : (part : ℕ) (s : List ℕ) (c : Column) (tag : ℕ) (m : Bool) (n table nulls at : ℕ)
    → Numbered (piece part s c tag m n table nulls at)
unfolding piece
piece-numbered part s c tag m n table nulls at =
    pick-numbered (eqb part 0) _ _ (const-numbered s c.ty tag at)
    (pick-numbered (eqb part 1) _ _ (table-numbered s c.ty tag at)
    (pick-numbered (eqb part 2) _ _ (nulls-numbered s c.ty c.nullable m n at)
    (data-numbered s c.ty tag (live s m nulls n) table at)))

along-numbered : (step : ℕ → ℕ → Outcome ℕ) → ((i at : ℕ) → Numbered (step i at)) → (i k at : ℕ) (done : List ℕ)
    → Numbered (along step i k at done)
unfolding along
along-numbered step h i zero at done = found-numbered _
along-numbered step h i (suc k) at done =
    then-numbered _ _ (h i at) (λ next. along-numbered step h (suc i) k next (done ++ (at ∷ [])))

-- ---- the whole bucket
module _ (cols : List Column) (n : ℕ) (s : List ℕ) where
  module _ (tags has : ℕ) where
    part-numbered : (part : ℕ) (tables nulls : List ℕ) (at : ℕ)
        → Numbered (along (piece_of cols n s tags has part tables nulls) 0 (length cols) at [])
    unfolding piece_of
    part-numbered part tables nulls at =
        along-numbered _ (λ i p. piece-numbered part s _ _ _ n _ _ p) 0 (length cols) at []

    body-numbered : Numbered (body cols n s tags has)
    unfolding body parts
    body-numbered =
        need-numbered _ _ _ (need-numbered _ _ _ (need-numbered _ _ _ (need-numbered _ _ _ (need-numbered _ _ _
        (then-numbered _ _ (part-numbered 0 [] [] _) (λ c.
        then-numbered _ _ (part-numbered 1 [] [] _) (λ t.
        then-numbered _ _ (part-numbered 2 [] [] _) (λ u.
        then-numbered _ _ (part-numbered 3 t.starts u.starts _) (λ d.
        need-numbered _ _ _ (found-numbered _))))))))))

    answer-numbered : (r i : ℕ) (l : Layout) → Numbered (answer cols n s tags has r i l)
    unfolding answer
    answer-numbered r i l =
        need-numbered _ _ _ (pick-numbered (is_null cols n s tags has l r i) _ _ (found-numbered Null)
        (value-numbered s _ _ _ _ _ _ _ _))

  head-numbered : (k : ℕ) (r : Result Varint ReadFault) → Numbered (head_number k r)
  unfolding head_number
  head-numbered k r =
      on-varint-numbered r _ _ _ (λ m next. need-numbered _ _ _ (found-numbered next))

  pub bucket-numbered : Numbered (bucket cols n s)
  unfolding bucket tags_at
  bucket-numbered =
      need-numbered _ _ _ (then-numbered _ _
      (then-numbered _ _ (head-numbered (length cols) (varint_at s 0)) (λ p. head-numbered 0 (varint_at s p)))
      (λ tags. told-numbered _ _ (body-numbered tags (tags + ceil8 (2 * length cols)))))

pub bucket-refusal-numbered : (d : List ℕ) (n : ℕ) (s : List ℕ) → Numbered (bucket_refusal d n s)
unfolding bucket_refusal
bucket-refusal-numbered d n s =
    then-numbered _ _ (schema-numbered d) (λ cols. told-numbered _ _ (bucket-numbered cols n s))

pub bucket-field-numbered : (d : List ℕ) (n : ℕ) (s : List ℕ) (r i : ℕ) → Numbered (bucket_field d n s r i)
unfolding bucket_field
bucket-field-numbered d n s r i =
    then-numbered _ _ (schema-numbered d) (λ cols.
    then-numbered _ _ (bucket-numbered cols n s) (λ b.
    answer-numbered cols n s b.tags (b.tags + ceil8 (2 * length cols)) r i b.layout))

answers-numbered : (f : ℕ → Outcome Field) → ((r : ℕ) → Numbered (f r)) → (r k : ℕ) → Numbered (answers f r k)
unfolding answers
answers-numbered f h r zero = found-numbered _
answers-numbered f h r (suc k) = then-numbered _ _ (h r) (λ x. told-numbered _ _ (answers-numbered f h (suc r) k))

pub bucket-page-numbered : (d : List ℕ) (n : ℕ) (s : List ℕ) (i p room : ℕ) → Numbered (bucket_page d n s i p room)
unfolding bucket_page column
bucket-page-numbered d n s i p room =
    then-numbered _ _ (schema-numbered d) (λ cols.
    then-numbered _ _ (bucket-numbered cols n s) (λ b.
    need-numbered _ _ _ (told-numbered _ _ (answers-numbered _ (λ r.
    answer-numbered cols n s b.tags (b.tags + ceil8 (2 * length cols)) r i b.layout) 0 n))))

-- so a check's 0 says that schema and bucket are accepted
pub bucket-zero : (d : List ℕ) (n : ℕ) (s : List ℕ) → status (bucket_refusal d n s) ≡ 0
    → (cols : List Column) × ((schema d ≡ found cols) × ((b : Judged) × (bucket cols n s ≡ found b)))
unfolding bucket_refusal
bucket-zero d n s e =
    let m = zero-found (bucket_refusal d n s) (bucket-refusal-numbered d n s) e in
    let c = then_found (schema d) _ m.0 m.1 in
    let b = then_found (bucket c.0 n s) _ m.0 c.1.1 in
    (c.0, (c.1.0, (b.0, b.1.0)))
