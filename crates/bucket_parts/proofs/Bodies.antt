-- What follows the header, test by test, and the whole bucket.
-- Assumes nothing.
use mathlib.Core.Path.{◌≡◌, refl, sym, ◌∙◌}
use mathlib.Core.Bool.{true, false}
use mathlib.Core.List.{List}
use Prim.Native.Nat.{ℕ, ◌+◌, ◌*◌, ◌≤◌, ◌<◌}
use native.Mathlib.Omega.{arith}
use lib.ListN.{length}
use lib.Seq.{length-take-le}
use lib.Dec.{leb}
use borrow.Author.Tests.{le-leb, lt-leb}
use Rattle.std.specs.Prelude.{Result, Ok, Err}
use Rattle.common.specs.Outcome.{refused, found, then, need}
use Rattle.common.specs.Lists.{from, every}
use Rattle.common.specs.Bytes.{ceil8, low_spare_zero}
use Rattle.common.specs.Refusal.{number}
use Rattle.common.specs.declared.Refusal.{Refusal}
use Rattle.common.specs.declared.Refusal.TheVariants as refusal
use Rattle.common.proofs.Outcomes.{clash}
use Rattle.row_laws.proofs.Read.{Known}
use Rattle.row_spec.specs.Schema.{columns_of}
use Rattle.row_spec.specs.declared.Schema.{Schema}
use Rattle.bucket_spec.specs.Bucket.{tag_allowed, parts, body, tags_at, bucket}
use Rattle.bucket_spec.specs.Read.{layout_outcome}
use Rattle.bucket_spec.specs.declared.Bucket.{Bucket}
use Rattle.bucket_parts.specs.Told.{Columns, Framed, BodyRead, Judgement}

pub columns-many : (sc : Schema) → Columns sc → length (columns_of sc) ≡ sc.count
columns-many sc there = length-take-le sc.count sc.columns (omega (arith, there.most, there.columns))

-- those of a schema that was read
pub known-columns : {d : List ℕ} {sc : Schema} → Known d sc → Columns sc
known-columns known = record { most = known.most; columns = known.room }

module _ (sc : Schema) (there : Columns sc) (rows : ℕ) (s : List ℕ) where
  module _ (tags has : ℕ) (start : has ≡ tags + ceil8 (2 * sc.count)) where
    refuse : (r : Refusal) → body (columns_of sc) rows s tags has ≡ refused (number r) → BodyRead sc rows s tags (Err r)
    refuse r e = record { says = sym e ∙ rw start; framed = λ b q. clash (cc) }

    len : length (columns_of sc) ≡ sc.count
    len = columns-many sc there

    pub body-tags : leb has (length s) ≡ false → BodyRead sc rows s tags (Err refusal.BucketCut)
    unfolding body need
    body-tags e = refuse _ (rw e)

    module _ (h1 : leb has (length s) ≡ true) where
      pub body-tag-spare : low_spare_zero s tags (2 * sc.count) ≡ false
          → BodyRead sc rows s tags (Err refusal.BucketSpare)
      unfolding body need
      body-tag-spare e = refuse _ (rw (h1, len, e))

      module _ (h2 : low_spare_zero s tags (2 * sc.count) ≡ true) where
        pub body-all-null : every (tag_allowed (columns_of sc) rows s tags has) (from 0 sc.count) ≡ false
            → BodyRead sc rows s tags (Err refusal.BucketNull)
        unfolding body need
        body-all-null e = refuse _ (rw (h1, len, h2, e))

        module _ (h3 : every (tag_allowed (columns_of sc) rows s tags has) (from 0 sc.count) ≡ true) where
          pub body-bits : leb (has + ceil8 sc.count) (length s) ≡ false
              → BodyRead sc rows s tags (Err refusal.BucketCut)
          unfolding body need
          body-bits e = refuse _ (rw (h1, len, h2, h3, e))

          module _ (h4 : leb (has + ceil8 sc.count) (length s) ≡ true) where
            pub body-bit-spare : low_spare_zero s has sc.count ≡ false
                → BodyRead sc rows s tags (Err refusal.BucketSpare)
            unfolding body need
            body-bit-spare e = refuse _ (rw (h1, len, h2, h3, h4, e))

            pub body-parts : low_spare_zero s has sc.count ≡ true → (r : Result Bucket Refusal)
                → layout_outcome sc.count r ≡ parts (columns_of sc) rows s tags has (has + ceil8 sc.count)
                → ((b : Bucket) → r ≡ Ok b → (b.frame.tags ≡ tags) × Framed sc rows b) → BodyRead sc rows s tags r
            unfolding body need
            body-parts e r p f = record { says = p ∙ rw (← start, h1, len, h2, h3, h4, e); framed = f }

  unsound : (r : Refusal) → bucket (columns_of sc) rows s ≡ refused (number r) → Judgement sc rows s (Err r)
  unsound r e = record { says = sym e; framed = λ b q. clash (cc) }

  pub bucket-long : 16777216 < length s → Judgement sc rows s (Err refusal.BucketLimit)
  unfolding bucket need
  bucket-long h = unsound _ (rw (lt-leb (length s) 16777216 h))

  module _ (short : length s ≤ 16777216) where
    pub bucket-rows : 65536 < rows → Judgement sc rows s (Err refusal.BucketLimit)
    unfolding bucket need
    bucket-rows h = unsound _ (rw (le-leb (length s) 16777216 short, lt-leb rows 65536 h))

    module _ (few : rows ≤ 65536) where
      pub bucket-head : (r : Refusal) → refused (number r) ≡ tags_at sc.count s → Judgement sc rows s (Err r)
      unfolding bucket need
      bucket-head r e =
          unsound r (rw (le-leb (length s) 16777216 short, le-leb rows 65536 few, columns-many sc there, ← e))

      bucket-tags : (tags : ℕ) → found tags ≡ tags_at sc.count s
          → bucket (columns_of sc) rows s
          ≡ then (body (columns_of sc) rows s tags (tags + ceil8 (2 * sc.count)))
          (λ l. found (record { tags = tags; layout = l }))
      unfolding bucket need
      bucket-tags tags e = rw (le-leb (length s) 16777216 short, le-leb rows 65536 few, columns-many sc there, ← e)

      -- a body that was read is the whole bucket's judgement
      pub bucket-body : (tags : ℕ) → found tags ≡ tags_at sc.count s → (r : Result Bucket Refusal)
          → BodyRead sc rows s tags r
          → Judgement sc rows s r
      bucket-body tags e (Err r) b = record { says = rw (bucket-tags tags e, ← b.says); framed = λ x q. clash (cc) }
      bucket-body tags e (Ok x) b = record {
        says = rw (bucket-tags tags e, ← b.says, (b.framed x refl).0);
        framed = λ y q. (b.framed y q).1;
      }
