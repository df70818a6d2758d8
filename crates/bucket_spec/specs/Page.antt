-- Pages of one column of a bucket: a field for each row.
use Rattle.std.specs.Prelude.{ℕ, zero, suc, ◌+◌, ◌*◌, List, [], ◌∷◌, map, length, ltb}
use Rattle.common.specs.Outcome.{Outcome, found, then, need}
use Rattle.common.specs.Bytes.{ceil8}
use Rattle.row_spec.specs.Schema.{schema}
use Rattle.row_spec.specs.Page.{Page, page_of}
use Rattle.row_spec.specs.declared.Column.{Column}
use Rattle.row_spec.specs.declared.Field.{Field}
use Rattle.bucket_spec.specs.Bucket.{Judged, answer, bucket}

-- the answers to rows r, r + 1, .., k of them. No row of an accepted bucket is refused (bucket_laws: column-found).
unfoldable pub answers : (ℕ → Outcome Field) → ℕ → ℕ → Outcome (List Field)
answers f r zero = found []
answers f r (suc k) = then (f r) (λ x. then (answers f (suc r) k) (λ xs. found (x ∷ xs)))

-- column i of a judged bucket: the answer to each of its n rows
unfoldable pub column : List Column → ℕ → List ℕ → ℕ → Judged → Outcome (List Field)
column cols n s i b =
    answers (λ r. answer cols n s b.tags (b.tags + ceil8 (2 * length cols)) r i b.layout) 0 n

-- a row of one field
abbrev pub alone : Field → List Field
alone f = f ∷ []

-- the page of column i: "20, 37, 30 to 36, 25 for the column", whether or not there is a row
unfoldable pub bucket_page : List ℕ → ℕ → List ℕ → ℕ → ℕ → ℕ → Outcome Page
bucket_page d n s i p room =
    then (schema d) (λ cols.
    then (bucket cols n s) (λ b.
    need (ltb i (length cols)) 25
    (then (column cols n s i b) (λ fs. found (page_of 1 (map alone fs) p room)))))
