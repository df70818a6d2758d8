-- The field is the definition's, and a place of an accepted bucket lies within it. Assumes nothing.
use Rattle.bucket_laws.proofs.Within.{place-within}
use Rattle.buckets.proofs.part.Goals as goal

pub part-requires : goal.part-requires
part-requires c =
    place-within c.args.schema_bytes.now c.args.rows c.args.bucket.now c.args.row c.args.column
    c.field.result c.field.ensures
