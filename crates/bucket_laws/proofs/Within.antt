-- A place that a bucket's question is answered with lies within the bucket: it is the place of a stored field.
-- Assumes nothing.
use mathlib.Core.Path.{◌≡◌, refl}
use mathlib.Core.Bool.{true}
use mathlib.Core.List.{List}
use Prim.Native.Nat.{ℕ}
use lib.ListN.{length}
use Rattle.common.specs.Outcome.{Outcome, refused, found}
use Rattle.std.specs.Prelude.{Result}
use Rattle.common.specs.Refusal.{outcome}
use Rattle.common.specs.declared.Refusal.{Refusal}
use Rattle.row_spec.specs.Answer.{after, inside}
use Rattle.row_spec.specs.declared.Field.{Field}
use Rattle.bucket_spec.specs.Bucket.{bucket_field}
use Rattle.bucket_laws.proofs.Answered.{stored}

pub place-within : (d : List ℕ) (n : ℕ) (s : List ℕ) (r i : ℕ) (a : Result Field Refusal)
    → outcome a ≡ bucket_field d n s r i
    → after (outcome a) (inside (length s)) true ≡ true
place-within d n s r i a e = rw e (by-case (bucket_field d n s r i) refl)
  where
    by-case : (o : Outcome Field) → bucket_field d n s r i ≡ o → after o (inside (length s)) true ≡ true
    by-case (refused m) q = refl
    by-case (found f) q = (stored d n s r i f q).shows.within
