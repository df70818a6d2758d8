-- "Buckets": the refusal 30 to 37, or where each column's pieces start; and the answer to a row and a column.
use Rattle.std.specs.Prelude.{ℕ, Result, zero, suc, ◌+◌, ◌*◌, Bool, not, List, [], ◌∷◌, ◌++◌, length, get_or, leb}
use Rattle.std.specs.Prelude.{ltb, eqb}
use Rattle.common.specs.Outcome.{pick, both, either, Outcome, refused, found, then, need}
use Rattle.common.specs.Lists.{from, every}
use Rattle.common.specs.Bytes.{ceil8, low_bit, low_bits, low_spare_zero}
use Rattle.row_spec.specs.Varint.{varint_at, on_varint}
use Rattle.row_spec.specs.Schema.{schema, blank_column}
use Rattle.row_spec.specs.declared.Varint.{Varint}
use Rattle.row_spec.specs.declared.ReadFault.{ReadFault}
use Rattle.row_spec.specs.declared.Column.{Column}
use Rattle.row_spec.specs.declared.Field.{Field}
use Rattle.row_spec.specs.declared.Field.TheVariants.{Null}
use Rattle.bucket_spec.specs.Piece.{piece, value_of}

-- one part of the layout, each column's piece in column order: where each starts, and the place of the byte after them
pub record Part : Type 0 where
  pub starts : List ℕ
  pub next : ℕ

-- k columns more, from column i on, after the starts of done
unfoldable pub along : (ℕ → ℕ → Outcome ℕ) → ℕ → ℕ → ℕ → List ℕ → Outcome Part
along step i zero at done = found (record { starts = done; next = at })
along step i (suc k) at done = then (step i at) (λ next. along step (suc i) k next (done ++ (at ∷ [])))

pub record Layout : Type 0 where
  pub consts : List ℕ
  pub tables : List ℕ
  pub nulls : List ℕ
  pub cells : List ℕ

-- the schema's columns, n rows, the bytes, where the tags and the has-nulls bits start
module _ (cols : List Column) (n : ℕ) (s : List ℕ) (tags has : ℕ) where
  unfoldable pub col_of : ℕ → Column
  col_of i = get_or cols i blank_column

  -- "2-bit encoding tags", "from the low end"
  unfoldable pub tag_of : ℕ → ℕ
  tag_of i = low_bits s tags (2 * i) 2

  -- "ALL_NULL has no bitmap and no data, whatever its has-nulls bit"
  unfoldable pub mapped : ℕ → Bool
  mapped i = both (eqb (low_bit s has i) 1) (not (eqb (tag_of i) 3))

  unfoldable pub piece_of : ℕ → List ℕ → List ℕ → ℕ → ℕ → Outcome ℕ
  piece_of part tables nulls i at = piece part s (col_of i) (tag_of i) (mapped i) n (get_or tables i 0) (get_or nulls i 0) at

  -- "CONST values; DICT tables ..; null bitmaps; column data"; "Nothing follows."
  unfoldable pub parts : ℕ → Outcome Layout
  parts at =
      then (along (piece_of 0 [] []) 0 (length cols) at []) (λ c.
      then (along (piece_of 1 [] []) 0 (length cols) c.next []) (λ t.
      then (along (piece_of 2 [] []) 0 (length cols) t.next []) (λ u.
      then (along (piece_of 3 t.starts u.starts) 0 (length cols) u.next []) (λ d.
      need (eqb d.next (length s)) 36
      (found (record { consts = c.starts; tables = t.starts; nulls = u.starts; cells = d.starts }))))))

  -- "right after the tags an ALL_NULL tag, in a NOT NULL column with N over 0"
  unfoldable pub tag_allowed : ℕ → Bool
  tag_allowed j = either (col_of j).nullable (either (eqb n 0) (not (eqb (tag_of j) 3)))

  -- "Tags and bits run from the low end and fill up to a byte with 0"
  unfoldable pub body : Outcome Layout
  body =
      need (leb has (length s)) 31
      (need (low_spare_zero s tags (2 * length cols)) 34
      (need (every tag_allowed (from 0 (length cols))) 35
      (need (leb (has + ceil8 (length cols)) (length s)) 31
      (need (low_spare_zero s has (length cols)) 34
      (parts (has + ceil8 (length cols)))))))

  unfoldable pub is_null : Layout → ℕ → ℕ → Bool
  is_null l r i = either (eqb (tag_of i) 3) (both (mapped i) (eqb (low_bit s (get_or l.nulls i 0) r) 1))

  -- the field of row r and column i; "Then 36, then 25."
  unfoldable pub answer : ℕ → ℕ → Layout → Outcome Field
  answer r i l =
      need (both (ltb r n) (ltb i (length cols))) 25
      (pick (is_null l r i) (found Null)
      (value_of s (col_of i).ty (tag_of i) (mapped i) r (get_or l.consts i 0) (get_or l.tables i 0) (get_or l.nulls i 0) (get_or l.cells i 0)))

-- a number of the header that has to be k, and the place after it: "30 number by number (one cut short is 31)"
unfoldable pub head_number : ℕ → Result Varint ReadFault → Outcome ℕ
head_number k r = on_varint r (refused 31) (refused 30) (λ m next. need (eqb m k) 30 (found next))

-- where the tags of a bucket start
unfoldable pub tags_at : ℕ → List ℕ → Outcome ℕ
tags_at width s = then (head_number width (varint_at s 0)) (λ p. head_number 0 (varint_at s p))

-- "Buckets: 20, 37, 30 number by number .., then part by part in layout order": the tags' start, and where the pieces start
pub record Judged : Type 0 where
  pub tags : ℕ
  pub layout : Layout

unfoldable pub bucket : List Column → ℕ → List ℕ → Outcome Judged
bucket cols n s =
    need (both (leb (length s) 16777216) (leb n 65536)) 37
    (then (tags_at (length cols) s) (λ tags.
    then (body cols n s tags (tags + ceil8 (2 * length cols))) (λ l. found (record { tags = tags; layout = l }))))

-- whether the bucket of a schema's bytes is sound: 0, or its refusal
unfoldable pub bucket_refusal : List ℕ → ℕ → List ℕ → Outcome ℕ
bucket_refusal d n s = then (schema d) (λ cols. then (bucket cols n s) (λ b. found 0))

-- the field of row r and column i
unfoldable pub bucket_field : List ℕ → ℕ → List ℕ → ℕ → ℕ → Outcome Field
bucket_field d n s r i =
    then (schema d) (λ cols.
    then (bucket cols n s) (λ b.
    answer cols n s b.tags (b.tags + ceil8 (2 * length cols)) r i b.layout))
