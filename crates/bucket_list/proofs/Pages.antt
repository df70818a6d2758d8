-- A refusal leaves the list. A page of a column of an accepted bucket lists the answers to its rows, each of which the
-- bucket shows.
-- Assumes nothing.
use mathlib.Core.Path.{◌≡◌, refl, sym, ap, ◌∙◌}
use mathlib.Core.List.{List}
use Prim.Native.Nat.{ℕ, ◌+◌, ◌-◌, ◌/◌, ◌≤◌, ◌<◌, min}
use lib.ListN.{length, get_or, take, drop, length-take, length-drop}
use Rattle.common.specs.Outcome.{Outcome, refused, found}
use Rattle.std.specs.Prelude.{Ok, Err}
use Rattle.common.specs.Refusal.{number}
use Rattle.common.specs.declared.Refusal.{Refusal}
use Rattle.common.specs.declared.Refusal.TheVariants.{Absent}
use Rattle.common.proofs.Outcomes.{same-found}
use Rattle.row_spec.specs.Schema.{schema, held, columns_of}
use Rattle.row_spec.specs.Page.{Page, written, Paged}
use Rattle.row_spec.specs.declared.Column.{Column}
use Rattle.row_spec.specs.declared.Field.{Field}
use Rattle.row_spec.specs.declared.Field.TheVariants.{Null}
use Rattle.row_spec.specs.declared.Schema.{Schema}
use Rattle.row_laws.proofs.Read.{read-refused, Known}
use Rattle.row_laws.proofs.Pages.{taken_at}
use Rattle.bucket_spec.specs.Bucket.{Judged, bucket}
use Rattle.bucket_spec.specs.Page.{column, bucket_page}
use Rattle.bucket_spec.specs.declared.Bucket.{Bucket}
use Rattle.bucket_laws.specs.Shown.{Shows}
use Rattle.bucket_laws.proofs.Answered.{replied}
use Rattle.bucket_laws.proofs.Pages.{column-answers, column-page, bucket-page, absent-column}
use Rattle.bucket_list.specs.Listed.{Lists, ColumnThere, judged_of, PageListed}
use Rattle.bucket_parts.proofs.Bodies.{columns-many}

-- ---- the rows of a page
taken-many : (fs : List Field) (n p room given : ℕ) → length fs ≡ n → given ≡ min (room / 3) (n - p)
    → length (take (room / 3) (drop p fs)) ≡ given
taken-many fs n p room given many gives =
    length-take (room / 3) (drop p fs) ∙ rw (length-drop p fs, many) (sym gives)

module _ (cols : List Column) (n : ℕ) (s : List ℕ) (b : Judged) (i : ℕ) (accepted : bucket cols n s ≡ found b)
    (there : i < length cols) (fs : List Field) (is : column cols n s i b ≡ found fs) where
  -- each field of the column is shown
  column-shows : (length fs ≡ n) × ((r : ℕ) → r < n → Shows cols n s b r i (get_or fs r Null))
  column-shows =
      let x = column-answers cols n s b i accepted there in
      let same : x.0 ≡ fs = same-found (sym x.1.0 ∙ is) in (
        sym (ap length same) ∙ x.1.1.0,
        λ r less. let a = replied cols n s b r i accepted less there in
            let field = same-found (sym a.given ∙ x.1.1.1 r less) ∙ ap (λ (l : List Field). get_or l r Null) same in
            rw field at a.shows,
      )

  rows-listed : (p room given : ℕ) (before after : List ℕ) → given ≡ min (room / 3) (n - p)
      → Lists (λ m f. Shows cols n s b (p + m) i f) given before after
      → after ≡ written (take (room / 3) (drop p fs)) before
  rows-listed p room given before after gives lists =
      let x = column-shows in
      let many = taken-many fs n p room given x.0 gives in
      lists.says (take (room / 3) (drop p fs)) many (λ m less.
      let y = taken_at fs p (room / 3) m Null (rw many less) in
      rw y.1 (x.1 (p + m) (rw (← x.0) y.0)))

pub page-listed : (sc : Schema) (n : ℕ) (s : List ℕ) (b : Bucket) (i p room given : ℕ) (before after : List ℕ)
    → ColumnThere sc b i → given ≡ min (room / 3) (n - p)
    → Lists (λ m f. Shows (columns_of sc) n s (judged_of sc b) (p + m) i f) given before after
    → PageListed sc n s b i p room given before after
page-listed sc n s b i p room given before after there gives lists =
    let less : i < length (columns_of sc) = rw (columns-many sc there.columns) there.there in
    record {
      gives = gives;
      holds = λ fs accepted is.
          rows-listed (columns_of sc) n s (judged_of sc b) i accepted less fs is p room given before after gives lists;
    }

-- ---- answers
refused-paged : (o : Outcome Page) (r : Refusal) (before : List ℕ) → o ≡ refused (number r)
    → Paged o (Err r) before before
refused-paged o r before e = rw e (record { says = refl; holds = refl })

module _ (d : List ℕ) (n : ℕ) (s : List ℕ) (i p : ℕ) (before : List ℕ) where
  pub page-unread : (r : Refusal) → refused (number r) ≡ held (schema d)
      → Paged (bucket_page d n s i p (length before)) (Err r) before before
  unfolding bucket_page
  page-unread r e = refused-paged _ r before (rw (read-refused d _ e))

  module _ (sc : Schema) (known : Known d sc) where
    pub page-bad : (r : Refusal) → refused (number r) ≡ bucket (columns_of sc) n s
        → Paged (bucket_page d n s i p (length before)) (Err r) before before
    unfolding bucket_page
    page-bad r bad = refused-paged _ r before (rw (known.is, ← bad))

    module _ (b : Bucket) (accepted : found (judged_of sc b) ≡ bucket (columns_of sc) n s) where
      pub page-absent : sc.count ≤ i → Paged (bucket_page d n s i p (length before)) (Err Absent) before before
      page-absent h =
          refused-paged _ Absent before
          (absent-column d (columns_of sc) n s (judged_of sc b) i p (length before) known.is (sym accepted)
          (rw known.count h))

      pub page-given : (given : ℕ) (after : List ℕ) → i < sc.count
          → PageListed sc n s b i p (length before) given before after
          → Paged (bucket_page d n s i p (length before)) (Ok (record { given = given; rows = n })) before after
      page-given given after less page =
          let cols = columns_of sc in
          let there : i < length cols = rw known.count less in
          let a = column-answers cols n s (judged_of sc b) i (sym accepted) there in
          let fs = a.0 in
          let is = a.1.0 in
          let many = a.1.1.0 in
          rw (
            bucket-page d cols n s (judged_of sc b) i known.is (sym accepted) there fs is p (length before),
            column-page fs p (length before),
            taken-many fs n p (length before) given many page.gives,
            many,
          )
          (record { says = refl; holds = page.holds fs (sym accepted) is })
