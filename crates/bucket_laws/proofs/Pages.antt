-- A column of an accepted bucket is the list of its rows' answers: none is refused. Its pages are those of rows of one
-- field.
-- Assumes nothing.
use mathlib.Core.Path.{◌≡◌, refl, sym, ap, subst, ◌∙◌}
use mathlib.Core.Bool.{true}
use mathlib.Core.List.{List, [], ◌∷◌, flatten, map}
use Prim.Native.Nat.{ℕ, zero, suc, ◌+◌, ◌-◌, ◌/◌, ◌≤◌, ◌<◌, min}
use native.Mathlib.Nat.{add-zero, zero-add, add-suc, suc-add, not-suc-le-zero, le_of_suc-le-suc}
use native.Mathlib.Omega.{arith}
use borrow.Author.Tests.{lt-ltb, le-ltb, ltb-true}
use lib.ListN.{length, get_or, take, drop, length-map}
use lib.Dec.{leb, ltb}
use Rattle.common.specs.Outcome.{Outcome, refused, found, need, status}
use Rattle.common.specs.Lists.{sum, every}
use Rattle.common.proofs.Outcomes.{same-found, then_found}
use Rattle.row_spec.specs.Schema.{schema}
use Rattle.row_spec.specs.Page.{Page, rows_from, page_of, pages}
use Rattle.row_spec.specs.declared.Column.{Column}
use Rattle.row_spec.specs.declared.Field.{Field}
use Rattle.row_spec.specs.declared.Field.TheVariants.{Null}
use Rattle.row_laws.specs.Pages.{PageFits}
use Rattle.row_laws.proofs.Read.{need-found}
use Rattle.row_laws.proofs.Status.{then-status}
use Rattle.row_laws.proofs.Flat.{Wide}
use Rattle.row_laws.proofs.Pages.{taken_at, pages-are, pages-all, page-fits}
use Rattle.bucket_spec.specs.Bucket.{Judged, bucket, bucket_refusal, bucket_field}
use Rattle.bucket_spec.specs.Page.{answers, column, alone, bucket_page}
use Rattle.bucket_laws.specs.Shown.{reply_at}
use Rattle.bucket_laws.proofs.Answered.{replied}

-- ---- questions that are all answered
-- fs are the answers to k questions from question r on
abbrev pub AllAnswered : (ℕ → Outcome Field) → ℕ → ℕ → List Field → Type 0
AllAnswered f r k fs =
    (answers f r k ≡ found fs) × ((length fs ≡ k) × ((j : ℕ) → j < k → f (r + j) ≡ found (get_or fs j Null)))

-- one question more, before the others
one_more : (f : ℕ → Outcome Field) (r k : ℕ) (x : Field) (fs : List Field) → f r ≡ found x → AllAnswered f (suc r) k fs
    → AllAnswered f r (suc k) (x ∷ fs)
unfolding answers
one_more f r k x fs e h = (rw (e, h.0), (ap suc h.1.0, each))
  where
    each : (j : ℕ) → j < suc k → f (r + j) ≡ found (get_or (x ∷ fs) j Null)
    each zero l = rw (add-zero r) e
    each (suc j) l = rw (add-suc r j, ← suc-add r j) (h.1.1 j (omega arith))

pub answers-found : (f : ℕ → Outcome Field) (r k : ℕ)
    → ((j : ℕ) → j < k → (x : Field) × (f (r + j) ≡ found x)) → (fs : List Field) × AllAnswered f r k fs
unfolding answers
answers-found f r zero h = ([], (refl, (refl, λ j l. absurd (not-suc-le-zero l))))
answers-found f r (suc k) h =
    let first = h 0 (omega arith) in
    let rest = answers-found f (suc r) k (λ j l. rw (suc-add r j, ← add-suc r j) (h (suc j) (omega arith))) in
    (first.0 ∷ rest.0, one_more f r k first.0 rest.0 (rw (add-zero r) at first.1) rest.1)

-- ---- rows of one field
pub column-fields : (fs : List Field) → flatten (map alone fs) ≡ fs
unfolding flatten
column-fields [] = refl
column-fields (f ∷ fs) = ap (λ (l : List Field). f ∷ l) (column-fields fs)

take-map : (n : ℕ) (fs : List Field) → take n (map alone fs) ≡ map alone (take n fs)
take-map zero fs = refl
take-map (suc n) [] = refl
take-map (suc n) (f ∷ fs) = ap (λ (l : List (List Field)). alone f ∷ l) (take-map n fs)

drop-map : (n : ℕ) (fs : List Field) → drop n (map alone fs) ≡ map alone (drop n fs)
drop-map zero fs = refl
drop-map (suc n) [] = refl
drop-map (suc n) (f ∷ fs) = drop-map n fs

alone-wide : (fs : List Field) → Wide 1 (map alone fs)
alone-wide [] i h = absurd (not-suc-le-zero h)
alone-wide (f ∷ fs) zero h = refl
alone-wide (f ∷ fs) (suc i) h = alone-wide fs i (le_of_suc-le-suc h)

run_alone : (p n : ℕ) (fs : List Field) → take n (drop p (map alone fs)) ≡ map alone (take n (drop p fs))
run_alone p n fs = ap (take n) (drop-map p fs) ∙ take-map n (drop p fs)

-- the page of such rows
pub column-page : (fs : List Field) (p room : ℕ)
    → page_of 1 (map alone fs) p room
    ≡ record {
      fields = take (room / 3) (drop p fs);
      given = length (take (room / 3) (drop p fs));
      rows = length fs;
    }
unfolding page_of rows_from
column-page fs p room =
    let some = take (room / 3) (drop p fs) in
    rw (run_alone p (room / 3) fs, column-fields some, length-map some alone, length-map fs alone)

-- ---- a column of an accepted bucket
-- it has an answer for each row
pub column-answers : (cols : List Column) (n : ℕ) (s : List ℕ) (b : Judged) (i : ℕ) → bucket cols n s ≡ found b
    → i < length cols
    → (fs : List Field)
    × ((column cols n s i b ≡ found fs)
    × ((length fs ≡ n) × ((r : ℕ) → r < n → reply_at cols n s b i r ≡ found (get_or fs r Null))))
unfolding column
column-answers cols n s b i accepted there =
    let one : (j : ℕ) → j < n → (x : Field) × (reply_at cols n s b i (0 + j) ≡ found x) =
    λ j l. rw (zero-add j) (let x = replied cols n s b j i accepted l there in (x.field, x.given)) in
    let x = answers-found (reply_at cols n s b i) 0 n one in
    (x.0, (x.1.0, (x.1.1.0, λ r l. rw (zero-add r) at (x.1.1.1 r l))))

module _ (d : List ℕ) (cols : List Column) (n : ℕ) (s : List ℕ) (b : Judged) (i : ℕ) (read : schema d ≡ found cols)
    (accepted : bucket cols n s ≡ found b) (there : i < length cols) where
  -- so it has the answer to each question
  pub column-found : (fs : List Field)
      × ((column cols n s i b ≡ found fs)
      × ((length fs ≡ n) × ((r : ℕ) → r < n → bucket_field d n s r i ≡ found (get_or fs r Null))))
  unfolding bucket_field
  column-found =
      let x = column-answers cols n s b i accepted there in
      (x.0, (x.1.0, (x.1.1.0, λ r l. rw (read, accepted) (x.1.1.1 r l))))

  -- ---- the pages of the column fs
  module _ (fs : List Field) (is : column cols n s i b ≡ found fs) where
    pub column-each : (length fs ≡ n) × ((r : ℕ) → r < n → bucket_field d n s r i ≡ found (get_or fs r Null))
    column-each = let x = column-found in rw (same-found (sym x.1.0 ∙ is)) at x.1.1

    pub bucket-page : (p room : ℕ) → bucket_page d n s i p room ≡ found (page_of 1 (map alone fs) p room)
    unfolding bucket_page need
    bucket-page p room = rw (read, accepted, lt-ltb i (length cols) there, is)

    -- Pages from row p on: the fields that their rooms take together, and the place after them.
    pub bucket-pages : (p : ℕ) (ms : List ℕ)
        → pages (bucket_page d n s i) p ms
        ≡ found (record {
          fields = take (sum (λ m. m / 3) ms) (drop p fs);
          place = p + length (take (sum (λ m. m / 3) ms) (drop p fs));
        })
    bucket-pages p ms =
        let some = take (sum (λ m. m / 3) ms) (drop p fs) in
        pages-are 1 (map alone fs) (bucket_page d n s i) bucket-page p ms
        ∙ rw (run_alone p (sum (λ m. m / 3) ms) fs, column-fields some, length-map some alone)

    -- As many pages as rows, each with room for a field, are the whole column.
    pub bucket-pages-all : (ms : List ℕ) → every (λ m. leb 3 m) ms ≡ true → n ≤ length ms
        → pages (bucket_page d n s i) 0 ms ≡ found (record { fields = fs; place = n })
    bucket-pages-all ms h many =
        let rows : length (map alone fs) ≡ n = length-map fs alone ∙ column-each.0 in
        pages-all 1 (map alone fs) (bucket_page d n s i) bucket-page ms (omega arith) h (omega arith)
        ∙ rw (column-fields fs, rows)

-- ---- a page that was given
-- it is of a column of an accepted bucket
record Given (d : List ℕ) (n : ℕ) (s : List ℕ) (i p room : ℕ) (x : Page) : Type 0 where
  fs : List Field
  many : length fs ≡ n
  each : (r : ℕ) → r < n → bucket_field d n s r i ≡ found (get_or fs r Null)
  page : page_of 1 (map alone fs) p room ≡ x

module _ (d : List ℕ) (n : ℕ) (s : List ℕ) (i p room : ℕ) (x : Page) (page : bucket_page d n s i p room ≡ found x) where
  given : Given d n s i p room x
  unfolding bucket_page
  given =
      let c = then_found (schema d) _ x page in
      let b = then_found (bucket c.0 n s) _ x c.1.1 in
      let h = need-found (ltb i (length c.0)) 25 _ x b.1.1 in
      let fs = then_found (column c.0 n s i b.0) _ x h.1 in
      let there = ltb-true i (length c.0) h.0 in
      let y = column-each d c.0 n s b.0 i c.1.0 b.1.0 there fs.0 fs.1.0 in
      record { fs = fs.0; many = y.0; each = y.1; page = same-found fs.1.1 }

  -- as many whole rows as the room takes, or all that are left; it fits the room
  pub column-page-rows : x.rows ≡ n
  unfolding page_of
  column-page-rows =
      let y = given in
      sym (ap (λ (q : Page). q.rows) y.page) ∙ length-map y.fs alone ∙ y.many

  pub column-page-given : PageFits 1 p room x
  column-page-given =
      let y = given in
      subst (PageFits 1 p room) y.page (page-fits 1 (map alone y.fs) p room (alone-wide y.fs))

  pub column-page-many : x.given ≡ min (room / 3) (n - p)
  column-page-many = column-page-given.given ∙ rw column-page-rows

  -- the page is exactly the answers to single questions
  pub column-page-field : (k : ℕ) → k < x.given → bucket_field d n s (p + k) i ≡ found (get_or x.fields k Null)
  column-page-field k h =
      let y = given in
      let is = sym (column-page y.fs p room) ∙ y.page in
      let z = taken_at y.fs p (room / 3) k Null (rw (ap (λ (q : Page). q.given) is) h) in
      y.each (p + k) (rw (← y.many) z.0)
      ∙ ap found (sym z.1 ∙ ap (λ (q : Page). get_or q.fields k Null) is)

-- ---- refusals
-- "25 for the column"
pub absent-column : (d : List ℕ) (cols : List Column) (n : ℕ) (s : List ℕ) (b : Judged) (i p room : ℕ)
    → schema d ≡ found cols → bucket cols n s ≡ found b → length cols ≤ i → bucket_page d n s i p room ≡ refused 25
unfolding bucket_page need
absent-column d cols n s b i p room read accepted h = rw (read, accepted, le-ltb i (length cols) h)

-- Where there is the column, or no schema, a page is refused as the bucket is.
pub bucket-page-status : (d : List ℕ) (n : ℕ) (s : List ℕ) (i p room : ℕ)
    → ((cols : List Column) → schema d ≡ found cols → i < length cols)
    → status (bucket_page d n s i p room) ≡ status (bucket_refusal d n s)
unfolding bucket_page bucket_refusal need
bucket-page-status d n s i p room there =
    then-status (schema d) _ _ (λ cols read.
    then-status (bucket cols n s) _ _ (λ b accepted.
    let h = there cols read in
    let x = column-answers cols n s b i accepted h in
    rw (lt-ltb i (length cols) h, x.1.0)))
