-- Pages one after the other give the rows in order, as many as their rooms take together: each starts where the one
-- before ended. Every field is three numbers.
-- Assumes nothing.
use mathlib.Core.Path.{◌≡◌, refl, sym, ap, ◌∙◌}
use mathlib.Core.Bool.{true}
use mathlib.Core.List.{List, [], ◌∷◌, ◌++◌, flat_map, flatten, append_assoc}
use Prim.Native.Nat.{ℕ, zero, suc, ◌+◌, ◌*◌, ◌/◌, ◌≤◌, ◌<◌}
use native.Mathlib.Nat.{add-zero, zero-add, not-suc-le-zero, le_of_suc-le-suc, le-div_iff_mul-le}
use native.Mathlib.Nat.{mul_left_comm, mul-le-mul_right, div-mul-le_self}
use native.Mathlib.Omega.{arith}
use borrow.Author.Tests.{leb-true}
use lib.ListN.{length, get_or, take, drop, length-append, length-take, length-drop}
use lib.Seq.{take_at, take-add, take_all, drop-append-add, drop-drop, get_or-take, get_or-drop}
use lib.Dec.{leb}
use lib.Ieee.{binary32, binary64, to_bits}
use Rattle.common.specs.Outcome.{Outcome, found, one}
use Rattle.common.specs.Lists.{sum, every}
use Rattle.common.proofs.Lists.{both_left, both_right}
use Rattle.common.proofs.Outcomes.{same-found, then_found}
use Rattle.row_spec.specs.Schema.{schema}
use Rattle.row_spec.specs.Block.{block, row_count, block_field}
use Rattle.row_spec.specs.Answer.{shown}
use Rattle.row_spec.specs.Page.{unsigned, listed, numbers_of, Page, rows_from, page_of, block_page, pages}
use Rattle.row_spec.specs.declared.Column.{Column}
use Rattle.row_spec.specs.declared.Field.{Field}
use Rattle.row_spec.specs.declared.Field.TheVariants as field
use Rattle.row_laws.specs.Pages.{rows_taken, PageFits}
use Rattle.row_laws.proofs.Read.{schema-length}
use Rattle.row_laws.proofs.Flat.{flat_append, Wide, flat-length, flat-at}
use Rattle.row_laws.proofs.Accepted.{block-fits, answered}

-- ---- fields as numbers
pub listed-length : (f : Field) → length (listed f) ≡ 3
unfolding listed
listed-length field.Null = refl
listed-length (field.Bool b) = refl
listed-length (field.Whole z) = refl
listed-length (field.F32 x) = refl
listed-length (field.NanF32 n) = refl
listed-length (field.F64 x) = refl
listed-length (field.NanF64 n) = refl
listed-length (field.Time z n) = refl
listed-length (field.Place a l) = refl

pub numbers-length : (fs : List Field) → length (numbers_of fs) ≡ 3 * length fs
unfolding flat_map
numbers-length [] = refl
numbers-length (f ∷ fs) =
    rw (length-append (listed f) (numbers_of fs), listed-length f, numbers-length fs) (omega arith)

pub numbers-append : (a b : List Field) → numbers_of (a ++ b) ≡ numbers_of a ++ numbers_of b
unfolding flat_map
numbers-append [] b = refl
numbers-append (f ∷ a) b = rw (numbers-append a b, append_assoc (listed f) (numbers_of a) (numbers_of b))

-- the numbers of field j
pub numbers-at : (fs : List Field) (j : ℕ) → j < length fs
    → take 3 (drop (3 * j) (numbers_of fs)) ≡ listed (get_or fs j field.Null)
unfolding flat_map
numbers-at [] j h = absurd (not-suc-le-zero h)
numbers-at (f ∷ fs) zero h = take_at (listed f) (numbers_of fs) 3 (listed-length f)
numbers-at (f ∷ fs) (suc j) h =
    let one = listed-length f in
    let place : 3 * suc j ≡ length (listed f) + 3 * j = omega arith in
    rw (place, drop-append-add (listed f) (numbers_of fs) (3 * j)) (numbers-at fs j (le_of_suc-le-suc h))

sums : (k a b c d : ℕ) → a ≡ b → c ≡ d → k ∷ a ∷ c ∷ [] ≡ k ∷ b ∷ d ∷ []
sums k a b c d e f = rw (e, f)

-- The three numbers are those that a field call shows: the kind; the one of whole number, bits and start that the kind
-- uses; the one of nanoseconds and length. What a kind does not use is 0.
pub listed-shown : (f : Field)
    → listed f
    ≡ (shown f).kind ∷ (unsigned (shown f).whole + (shown f).bits + (shown f).start)
    ∷ ((shown f).nanos + (shown f).length) ∷ []
unfolding listed shown unsigned
listed-shown field.Null = refl
listed-shown (field.Bool b) = sums 1 (one b) (one b + 0 + 0) 0 0 (omega arith) refl
listed-shown (field.Whole z) = sums 2 (unsigned z) (unsigned z + 0 + 0) 0 0 (omega arith) refl
listed-shown (field.F32 x) = sums 3 (to_bits binary32 x) (0 + to_bits binary32 x + 0) 0 0 (omega arith) refl
listed-shown (field.NanF32 n) = sums 3 n (0 + n + 0) 0 0 (omega arith) refl
listed-shown (field.F64 x) = sums 4 (to_bits binary64 x) (0 + to_bits binary64 x + 0) 0 0 (omega arith) refl
listed-shown (field.NanF64 n) = sums 4 n (0 + n + 0) 0 0 (omega arith) refl
listed-shown (field.Time z n) = sums 5 (unsigned z) (unsigned z + 0 + 0) n (n + 0) (omega arith) (omega arith)
listed-shown (field.Place a l) = sums 6 a (0 + 0 + a) l (0 + l) (omega arith) (omega arith)

-- ---- pages one after the other
-- what was taken is dropped
drop-taken : {A : Type 0} (n : ℕ) (l : List A) → drop (length (take n l)) l ≡ drop n l
drop-taken zero l = refl
drop-taken (suc n) [] = refl
drop-taken (suc n) (x ∷ l) = drop-taken n l

-- n elements from p on, then m more
taken_more : {A : Type 0} (l : List A) (p n m : ℕ)
    → take n (drop p l) ++ take m (drop (p + length (take n (drop p l))) l) ≡ take (n + m) (drop p l)
taken_more l p n m =
    rw (← drop-drop (length (take n (drop p l))) p l, drop-taken n (drop p l), ← take-add n m (drop p l))

-- an element of n from p on
pub taken_at : {A : Type 0} (l : List A) (p n k : ℕ) (d : A) → k < length (take n (drop p l))
    → (p + k < length l) × (get_or (take n (drop p l)) k d ≡ get_or l (p + k) d)
taken_at l p n k d h =
    let few = length-take n (drop p l) in
    let left = length-drop p l in
    (omega arith, get_or-take n (drop p l) k d (omega arith) ∙ get_or-drop p l k d)

-- rooms that hold a row each take as many rows as there are rooms
enough : (width : ℕ) → 1 ≤ width → (ms : List ℕ) → every (λ m. leb (3 * width) m) ms ≡ true
    → length ms ≤ sum (λ m. m / (3 * width)) ms
unfolding every sum
enough width some [] h = omega arith
enough width some (m ∷ ms) h =
    let room = leb-true (3 * width) m (both_left (leb (3 * width) m) _ h) in
    let one : 1 ≤ m / (3 * width) = (le-div_iff_mul-le {k = 3 * width} (omega arith)).1 (omega arith) in
    omega (arith, enough width some ms (both_right (leb (3 * width) m) _ h))

module _ (width : ℕ) (rs : List (List Field)) (call : ℕ → ℕ → Outcome Page)
    (page : (p m : ℕ) → call p m ≡ found (page_of width rs p m)) where
  -- Pages from row p on: the rows that their rooms take together, and the place after them.
  pub pages-are : (p : ℕ) (ms : List ℕ)
      → pages call p ms
      ≡ found (record { fields = flatten (rows_taken width rs p ms); place = p + length (rows_taken width rs p ms) })
  unfolding pages sum flatten page_of rows_from
  pages-are p [] = rw (add-zero p)
  pages-are p (m ∷ ms) =
      let first = take (m / (3 * width)) (drop p rs) in
      let rest = rows_taken width rs (p + length first) ms in
      let joined : first ++ rest ≡ rows_taken width rs p (m ∷ ms) = taken_more rs p (m / (3 * width)) _ in
      let place : p + length first + length rest ≡ p + length (first ++ rest) =
      rw (length-append first rest) (omega arith) in
      rw (page p m, pages-are (p + length first) ms, ← flat_append first rest, place, joined)

  -- As many pages as rows, each with room for a row, are all rows.
  pub pages-all : (ms : List ℕ) → 1 ≤ width → every (λ m. leb (3 * width) m) ms ≡ true → length rs ≤ length ms
      → pages call 0 ms ≡ found (record { fields = flatten rs; place = length rs })
  pages-all ms some h many =
      let all : length rs ≤ sum (λ m. m / (3 * width)) ms = omega (arith, enough width some ms h) in
      pages-are 0 ms ∙ rw (take_all _ rs all, zero-add (length rs))

-- ---- one page of rows of width fields each
module _ (width : ℕ) (rs : List (List Field)) (p room : ℕ) (wide : Wide width rs) where
  rows-wide : Wide width (rows_from width rs p room)
  unfolding rows_from
  rows-wide i h = let x = taken_at rs p (room / (3 * width)) i [] h in rw x.1 (wide (p + i) x.0)

  pub page-fits : PageFits width p room (page_of width rs p room)
  unfolding page_of rows_from
  page-fits =
      let given = rows_from width rs p room in
      let many = length-take (room / (3 * width)) (drop p rs) in
      let fields : length (flatten given) ≡ length given * width = flat-length width given rows-wide in
      let few : length given * (3 * width) ≤ room / (3 * width) * (3 * width) =
      mul-le-mul_right (3 * width) (omega arith) in
      let three = mul_left_comm 3 (length given) width in
      let most = div-mul-le_self room (3 * width) in
      record {
        given = many ∙ rw (length-drop p rs);
        fields = fields;
        fit = rw (numbers-length (flatten given), fields) (omega arith);
      }

  -- field c of row k of the page is that of row p + k
  pub page-at : (k c : ℕ) → k < (page_of width rs p room).given → c < width
      → (p + k < length rs)
      × (get_or (page_of width rs p room).fields (k * width + c) field.Null
      ≡ get_or (get_or rs (p + k) []) c field.Null)
  unfolding page_of rows_from
  page-at k c h less =
      let x = taken_at rs p (room / (3 * width)) k [] h in
      let here = flat-at width field.Null (rows_from width rs p room) rows-wide k c h less in
      (x.0, here ∙ ap (λ (r : List Field). get_or r c field.Null) x.1)

-- ---- pages of a block
module _ (d s : List ℕ) (cols : List Column) (rs : List (List Field)) (read : schema d ≡ found cols)
    (accepted : block cols s ≡ found rs) where
  pub block-page : (p room : ℕ) → block_page d s p room ≡ found (page_of (length cols) rs p room)
  unfolding block_page
  block-page p room = rw (read, accepted)

  pub block-pages : (p : ℕ) (ms : List ℕ)
      → pages (block_page d s) p ms
      ≡ found (record {
        fields = flatten (rows_taken (length cols) rs p ms);
        place = p + length (rows_taken (length cols) rs p ms);
      })
  block-pages p ms = pages-are (length cols) rs (block_page d s) block-page p ms

  pub block-pages-all : (ms : List ℕ) → every (λ m. leb (3 * length cols) m) ms ≡ true → length rs ≤ length ms
      → pages (block_page d s) 0 ms ≡ found (record { fields = flatten rs; place = length rs })
  block-pages-all ms h many =
      pages-all (length cols) rs (block_page d s) block-page ms (schema-length d cols read).0 h many

-- ---- a page of a block
module _ (d s : List ℕ) (cols : List Column) (p room : ℕ) (x : Page) (read : schema d ≡ found cols)
    (page : block_page d s p room ≡ found x) where
  -- it is of an accepted block
  page-of : (rs : List (List Field)) × ((block cols s ≡ found rs) × (page_of (length cols) rs p room ≡ x))
  unfolding block_page
  page-of =
      let y = then_found (block cols s) (λ rs. found (page_of (length cols) rs p room)) x (rw read at page) in
      (y.0, (y.1.0, same-found y.1.1))

  -- as many whole rows as the room takes, or all that are left; it fits the room
  pub page-given : PageFits (length cols) p room x
  page-given =
      let y = page-of in
      rw (← y.1.1) (page-fits (length cols) y.0 p room (block-fits cols s y.0 y.1.0).wide)

  pub page-rows : row_count d s ≡ found x.rows
  unfolding row_count page_of
  page-rows = let y = page-of in rw (read, y.1.0) (ap (λ (q : Page). found q.rows) y.1.1)

  -- the page is exactly the answers to single questions
  pub page-field : (k c : ℕ) → k < x.given → c < length cols
      → block_field d s (p + k) c ≡ found (get_or x.fields (k * length cols + c) field.Null)
  page-field k c h less =
      let y = page-of in
      let wide = (block-fits cols s y.0 y.1.0).wide in
      let given : k < (page_of (length cols) y.0 p room).given = rw y.1.1 h in
      let z = page-at (length cols) y.0 p room wide k c given less in
      (answered d s cols y.0 (p + k) c read y.1.0 z.0 less).0
      ∙ ap found (sym z.1 ∙ ap (λ (q : Page). get_or q.fields (k * length cols + c) field.Null) y.1.1)
