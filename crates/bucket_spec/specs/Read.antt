-- What the structs that the code hands on say.
use Rattle.std.specs.Prelude.{ℕ, Bool, true, false, Option, Some, None, Result, Ok, Err, take}
use Rattle.common.specs.Outcome.{pick, Outcome, refused, found}
use Rattle.common.specs.Refusal.{number}
use Rattle.common.specs.declared.Refusal.{Refusal}
use Rattle.bucket_spec.specs.Bucket.{Part, Layout, Judged}
use Rattle.bucket_spec.specs.declared.Encoding.{Encoding}
use Rattle.bucket_spec.specs.declared.Encoding.TheVariants as encoding
use Rattle.bucket_spec.specs.declared.Part as placed
use Rattle.bucket_spec.specs.declared.Bucket.{Bucket}

-- an encoding's tag
abbrev pub tag : Encoding → ℕ
tag encoding.Plain = 0
tag encoding.Const = 1
tag encoding.Dict = 2
tag encoding.AllNull = 3

-- whether a column has a bitmap, and where it starts: 0 where there is none
abbrev pub is_mapped : Option ℕ → Bool
is_mapped None = false
is_mapped (Some p) = true

abbrev pub bitmap_start : Option ℕ → ℕ
bitmap_start None = 0
bitmap_start (Some p) = p

-- where the bitmap is of a column that may have one at p
abbrev pub bitmap_of : Bool → ℕ → Option ℕ
bitmap_of mapped p = pick mapped (Some p) None

-- the first k starts are the columns'
abbrev pub part_outcome : ℕ → Result placed.Part Refusal → Outcome Part
part_outcome k (Ok x) = found (record { starts = take k x.starts; next = x.next })
part_outcome k (Err r) = refused (number r)

abbrev pub layout_read : ℕ → Bucket → Layout
layout_read k x = record {
  consts = take k x.consts;
  tables = take k x.tables;
  nulls = take k x.nulls;
  cells = take k x.cells;
}

abbrev pub layout_outcome : ℕ → Result Bucket Refusal → Outcome Layout
layout_outcome k (Ok x) = found (layout_read k x)
layout_outcome k (Err r) = refused (number r)

abbrev pub bucket_outcome : ℕ → Result Bucket Refusal → Outcome Judged
bucket_outcome k (Ok x) = found (record { tags = x.frame.tags; layout = layout_read k x })
bucket_outcome k (Err r) = refused (number r)
