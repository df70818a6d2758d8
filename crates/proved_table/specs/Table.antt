-- 01's examples marked P, with 02's bytes of {256}, as one table. A line is what the papers print; Holds says what the
-- line claims over the definitions.
use Rattle.std.specs.Prelude.{ℕ, ◌≡◌, List, [], ◌∷◌, length, pos}
use Rattle.common.specs.Outcome.{found, then}
use Rattle.bitmap_spec.specs.Judge.{judge}
use Rattle.bitmap_spec.specs.Form.{form}
use Rattle.bitmap_spec.specs.Output.{called}
use Rattle.row_spec.specs.Schema.{schema}
use Rattle.row_spec.specs.Block.{block}
use Rattle.row_spec.specs.declared.Field.{Field}
use Rattle.row_spec.specs.declared.Field.TheVariants.{Whole}
use Rattle.bucket_spec.specs.Bucket.{bucket_field}
use Rattle.bitmap_spec.specs.declared.Operation.{Operation}
use Rattle.bitmap_spec.specs.declared.Operation.TheVariants.{SymmetricDifference}

pub data Line : Type 0 where
  -- a set, and its bytes
  bitmap : (set bytes : List ℕ) → Line
  -- two sets, an operation on their forms, and the bytes that it writes
  combined : Operation → (first second bytes : List ℕ) → Line
  -- a schema, a block, and the fields of its rows
  rows : (schema_bytes block_bytes : List ℕ) → List (List Field) → Line
  -- a schema, a row count, a bucket, and column 0 in its first three rows
  bucket : (schema_bytes : List ℕ) → ℕ → (bucket_bytes : List ℕ) → (first second third : Field) → Line

-- what a line claims
abbrev pub Holds : Line → Type 0
Holds (bitmap set bytes) = (form set ≡ bytes) × (judge bytes ≡ found set)
Holds (combined o first second bytes) = called o (form first) (form second) (length bytes) ≡ found bytes
Holds (rows d b answer) = then (schema d) (λ cols. block cols b) ≡ found answer
Holds (bucket d n b x y z) = bucket_field d n b 0 0 ∷ bucket_field d n b 1 0 ∷ bucket_field d n b 2 0 ∷ [] ≡ found x ∷ found y ∷ found z ∷ []

-- every line of a table holds
abbrev pub All : List Line → Type 0
All [] = Unit {0}
All (l ∷ ls) = Holds l × All ls

-- the table
abbrev pub lines : List Line
lines =
    -- "empty"
    bitmap [] (0x01 ∷ 0x00 ∷ 0x00 ∷ 0x00 ∷ 0x00 ∷ 0x00 ∷ [])
    -- "{0}"
    ∷ bitmap (0 ∷ []) (0x01 ∷ 0x01 ∷ 0x00 ∷ 0x00 ∷ 0x01 ∷ 0x00 ∷ 0x00 ∷ 0x00 ∷ 0x01 ∷ 0x00 ∷ [])
    -- "{0, 34, 255}"
    ∷ bitmap (0 ∷ 34 ∷ 255 ∷ []) (0x01 ∷ 0x03 ∷ 0x00 ∷ 0x00 ∷ 0x01 ∷ 0x00 ∷ 0x00 ∷ 0x00 ∷ 0x03 ∷ 0x00 ∷ 0x22 ∷ 0xFF ∷ [])
    -- "{256}", which 02 (iii) amends: "{256} now takes 11 bytes"
    ∷ bitmap (256 ∷ []) (0x01 ∷ 0x01 ∷ 0x00 ∷ 0x00 ∷ 0x02 ∷ 0x00 ∷ 0x01 ∷ 0x00 ∷ 0x00 ∷ 0x40 ∷ 0x00 ∷ [])
    -- "{0, 256}"
    ∷ bitmap (0 ∷ 256 ∷ []) (0x01 ∷ 0x02 ∷ 0x00 ∷ 0x00 ∷ 0x02 ∷ 0x00 ∷ 0x00 ∷ 0x00 ∷ 0x01 ∷ 0x00 ∷ 0x00 ∷ [])
    -- "{0} either-but-not-both {0}: the empty form"
    ∷ combined SymmetricDifference (0 ∷ []) (0 ∷ []) (0x01 ∷ 0x00 ∷ 0x00 ∷ 0x00 ∷ 0x00 ∷ 0x00 ∷ [])
    -- "row schema `01 03 00`, block `00 05 00 00 00 00 00 00 00 01 00 00 00`: one row, 5"
    ∷ rows (0x01 ∷ 0x03 ∷ 0x00 ∷ []) (0x00 ∷ 0x05 ∷ 0x00 ∷ 0x00 ∷ 0x00 ∷ 0x00 ∷ 0x00 ∷ 0x00 ∷ 0x00 ∷ 0x01 ∷ 0x00 ∷ 0x00 ∷ 0x00 ∷ []) ((Whole (pos 5) ∷ []) ∷ [])
    -- "bucket of TINYINT NOT NULL, N 3, `01 00 02 00 02 01 02 02`: 1, 2, 1"
    ∷ bucket (0x01 ∷ 0x01 ∷ 0x00 ∷ []) 3 (0x01 ∷ 0x00 ∷ 0x02 ∷ 0x00 ∷ 0x02 ∷ 0x01 ∷ 0x02 ∷ 0x02 ∷ []) (Whole (pos 1)) (Whole (pos 2)) (Whole (pos 1))
    ∷ []
