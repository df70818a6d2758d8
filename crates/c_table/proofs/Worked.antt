-- A call's status of 0 says that it did its work: no definition refuses with 0, so where the status is 0 something was found.
-- A bucket check's 0 says that schema and bucket are accepted: `bucket_laws: bucket-zero`. Assumes nothing.
use mathlib.Core.Path.{◌≡◌}
use mathlib.Core.List.{List}
use Prim.Native.Nat.{ℕ}
use Rattle.common.specs.Outcome.{found, status}
use Rattle.common.proofs.Outcomes.{zero-found}
use Rattle.row_spec.specs.Schema.{column_count, column_of}
use Rattle.row_spec.specs.Block.{row_count, block_field}
use Rattle.row_spec.specs.declared.Column.{Column}
use Rattle.row_spec.specs.declared.Field.{Field}
use Rattle.row_laws.proofs.Status.{column-count-numbered, column-of-numbered, row-count-numbered, block-field-numbered}
use Rattle.bucket_spec.specs.Bucket.{bucket_field}
use Rattle.bucket_laws.proofs.Status.{bucket-field-numbered}

pub schema-check-worked : (d : List ℕ) → status (column_count d) ≡ 0 → (n : ℕ) × (column_count d ≡ found n)
schema-check-worked d e = zero-found _ (column-count-numbered d) e

pub schema-column-worked : (d : List ℕ) (i : ℕ) → status (column_of d i) ≡ 0 → (c : Column) × (column_of d i ≡ found c)
schema-column-worked d i e = zero-found _ (column-of-numbered d i) e

pub block-check-worked : (d s : List ℕ) → status (row_count d s) ≡ 0 → (n : ℕ) × (row_count d s ≡ found n)
block-check-worked d s e = zero-found _ (row-count-numbered d s) e

pub block-field-worked : (d s : List ℕ) (r c : ℕ) → status (block_field d s r c) ≡ 0
    → (f : Field) × (block_field d s r c ≡ found f)
block-field-worked d s r c e = zero-found _ (block-field-numbered d s r c) e

pub bucket-field-worked : (d : List ℕ) (n : ℕ) (s : List ℕ) (r i : ℕ) → status (bucket_field d n s r i) ≡ 0
    → (f : Field) × (bucket_field d n s r i ≡ found f)
bucket-field-worked d n s r i e = zero-found _ (bucket-field-numbered d n s r i) e
