-- What the judging functions ask and promise.
use Rattle.std.specs.Prelude.{◌≡◌, Result, Ok, List, [], length, get_or, not, eqb, ℕ, ◌+◌, ◌*◌, ◌≤◌, ◌<◌}
use Rattle.common.specs.Bytes.{ceil8, low_bit, low_bits}
use Rattle.common.specs.Outcome.{both, Outcome}
use Rattle.common.specs.Refusal.{outcome}
use Rattle.common.specs.declared.Refusal.{Refusal}
use Rattle.row_spec.specs.Schema.{columns_of}
use Rattle.row_spec.specs.declared.Schema.{Schema}
use Rattle.bucket_spec.specs.Bucket.{piece_of, body, bucket}
use Rattle.bucket_spec.specs.Read.{tag, bitmap_of, layout_outcome, bucket_outcome}
use Rattle.bucket_spec.specs.declared.Frame.{Frame}
use Rattle.bucket_spec.specs.declared.Bucket.{Bucket}
use Rattle.bucket_spec.specs.declared.Pieces.{Pieces}

-- a schema's columns stand in its array
pub record Columns (sc : Schema) : Type 0 where
  pub most : sc.count ≤ 64
  pub columns : length sc.columns ≡ 64

-- what may be answered of one of n columns and a place says what the step does there
abbrev pub Steps : ℕ → (ℕ → ℕ → Outcome ℕ) → (ℕ → ℕ → Result ℕ Refusal → Type 0) → Type 0
Steps n step answers = (i at : ℕ) (r : Result ℕ Refusal) → i < n → answers i at r → outcome r ≡ step i at

-- the step of a part, by the frame, from where the columns' tables and bitmaps start
abbrev pub step_of : Schema → Frame → List ℕ → ℕ → List ℕ → List ℕ → ℕ → ℕ → Outcome ℕ
step_of sc f s part tables nulls = piece_of (columns_of sc) f.rows s f.tags f.has part tables nulls

-- the pieces of column i of a judged bucket
pub record PiecesAt (s : List ℕ) (b : Bucket) (i : ℕ) (p : Pieces) : Type 0 where
  pub encoding : tag p.encoding ≡ low_bits s b.frame.tags (2 * i) 2
  pub start : p.start ≡ get_or b.consts i 0
  pub table : p.table ≡ get_or b.tables i 0
  pub nulls : p.nulls
      ≡ bitmap_of (both (eqb (low_bit s b.frame.has i) 1) (not (eqb (tag p.encoding) 3))) (get_or b.nulls i 0)
  pub cells : p.cells ≡ get_or b.cells i 0

-- the frame of a bucket of so many rows
pub record Framed (sc : Schema) (n : ℕ) (b : Bucket) : Type 0 where
  pub rows : b.frame.rows ≡ n
  pub has : b.frame.has ≡ b.frame.tags + ceil8 (2 * sc.count)

-- the body's outcome, and the frame of a body that is sound
pub record BodyRead (sc : Schema) (rows : ℕ) (s : List ℕ) (tags : ℕ) (r : Result Bucket Refusal) : Type 0 where
  pub says : layout_outcome sc.count r ≡ body (columns_of sc) rows s tags (tags + ceil8 (2 * sc.count))
  pub framed : (b : Bucket) → r ≡ Ok b → (b.frame.tags ≡ tags) × Framed sc rows b

-- the bucket's outcome, and the frame of a bucket that is sound
pub record Judgement (sc : Schema) (rows : ℕ) (s : List ℕ) (r : Result Bucket Refusal) : Type 0 where
  pub says : bucket_outcome sc.count r ≡ bucket (columns_of sc) rows s
  pub framed : (b : Bucket) → r ≡ Ok b → Framed sc rows b
