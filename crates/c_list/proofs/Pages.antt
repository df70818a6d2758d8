-- What the answer of a page says of its outcome, and so of the memory that the call leaves.
-- Assumes nothing.
use mathlib.Core.Path.{◌≡◌, refl, ap, ◌∙◌}
use mathlib.Core.List.{List}
use Prim.Native.Nat.{ℕ, ◌+◌, ◌-◌, ◌/◌, ◌*◌, ◌≤◌}
use native.Mathlib.Nat.{min-le_right}
use native.Mathlib.Omega.{arith}
use lib.ListN.{length, drop, length-take, length-drop}
use Rattle.common.specs.Outcome.{Outcome, refused, found, after}
use Rattle.common.proofs.Outcomes.{clash, then_found, same-found}
use Rattle.row_spec.specs.Schema.{schema}
use Rattle.row_spec.specs.Block.{block}
use Rattle.row_spec.specs.Page.{Page, rows_from, page_of, block_page, written, page_told, Paged}
use Rattle.row_spec.specs.declared.Field.{Field}
use Rattle.std.specs.Prelude.{Result, Ok, Err}
use Rattle.common.specs.Refusal.{number, outcome}
use Rattle.common.specs.declared.Refusal.{Refusal}
use Rattle.row_spec.specs.declared.PageCounts.{PageCounts}
use Rattle.bucket_spec.specs.Page.{bucket_page}
use Rattle.bucket_laws.proofs.Pages.{column-page-many, column-page-rows}
use Rattle.c_list.specs.Outputs.{Listing, turned, PageCall}

module _ (o : Outcome Page) (m : Listing) (list : List ℕ) (r : Result PageCounts Refusal)
    (h : Paged o r m.list list) where
  pub refused-page : (n : Refusal) → r ≡ Err n
      → PageCall o (number n) m (record { list = list; place = m.place; given = m.given; rows = m.rows })
  refused-page n e = by-outcome o (rw e at h.says) h.holds
    where
      by-outcome : (o : Outcome Page) → refused (number n) ≡ page_told o
          → list ≡ after o (λ x. written x.fields m.list) m.list
          → PageCall o (number n) m (record { list = list; place = m.place; given = m.given; rows = m.rows })
      by-outcome (refused k) q w = let z : number n ≡ k = cc in record { says = z; holds = rw w }
      by-outcome (found x) q w = clash (cc)

  pub given-page : (g n : ℕ) → r ≡ Ok (record { given = g; rows = n })
      → PageCall o 0 m (record { list = list; place = m.place + g; given = g; rows = n })
  unfolding turned
  given-page g n e = by-outcome o (rw e at h.says) h.holds
    where
      by-outcome : (o : Outcome Page) → found (record { given = g; rows = n }) ≡ page_told o
          → list ≡ after o (λ x. written x.fields m.list) m.list
          → PageCall o 0 m (record { list = list; place = m.place + g; given = g; rows = n })
      by-outcome (refused k) q w = clash (cc)
      by-outcome (found x) q w =
          let gives : g ≡ x.given = ap (λ (c : PageCounts). c.given) (same-found q) in
          let many : n ≡ x.rows = ap (λ (c : PageCounts). c.rows) (same-found q) in
          record { says = refl; holds = rw (w, gives, many) }

-- A page gives no more rows than there are from its place on.
abbrev pub Within : Outcome Page → ℕ → Type 0
Within o p = (x : Page) → o ≡ found x → x.given ≤ x.rows - p

-- so the place behind them fits where the place and the number of rows do
pub place-fits : (o : Outcome Page) (p : ℕ) (before list : List ℕ) (r : Result PageCounts Refusal)
    → Paged o r before list → Within o p
    → (g n : ℕ) → r ≡ Ok (record { given = g; rows = n }) → g ≤ n - p
place-fits o p before list r h within g n e = by-outcome o (rw e at h.says) within
  where
    by-outcome : (o : Outcome Page) → found (record { given = g; rows = n }) ≡ page_told o → Within o p → g ≤ n - p
    by-outcome (refused k) q w = clash (cc)
    by-outcome (found x) q w =
        let gives : g ≡ x.given = ap (λ (c : PageCounts). c.given) (same-found q) in
        let many : n ≡ x.rows = ap (λ (c : PageCounts). c.rows) (same-found q) in
        rw (gives, many) (w x refl)

page-within : (w : ℕ) (rs : List (List Field)) (p room : ℕ)
    → (page_of w rs p room).given ≤ (page_of w rs p room).rows - p
unfolding page_of rows_from
page-within w rs p room =
    let taken = length-take (room / (3 * w)) (drop p rs) in
    let left = length-drop p rs in
    omega (arith, min-le_right (room / (3 * w)) (length (drop p rs)))

pub block_within : (d s : List ℕ) (p room : ℕ) → Within (block_page d s p room) p
unfolding block_page
block_within d s p room x e =
    let a = then_found (schema d) _ x e in
    let b = then_found (block a.0 s) _ x a.1.1 in
    rw (← same-found b.1.1) (page-within (length a.0) b.0 p room)

pub bucket-within : (d : List ℕ) (n : ℕ) (s : List ℕ) (i p room : ℕ) → Within (bucket_page d n s i p room) p
bucket-within d n s i p room x e =
    let many = column-page-many d n s i p room x e in
    let rows = column-page-rows d n s i p room x e in
    omega (arith, many, rows, min-le_right (room / 3) (n - p))

-- a page of a bucket says how many rows the bucket has
pub bucket-rows : (d : List ℕ) (n : ℕ) (s : List ℕ) (i p room : ℕ) (before list : List ℕ) (r : Result PageCounts Refusal)
    → Paged (bucket_page d n s i p room) r before list
    → (g m : ℕ) → r ≡ Ok (record { given = g; rows = m }) → m ≡ n
bucket-rows d n s i p room before list r h g m e =
    by-outcome (bucket_page d n s i p room) (rw e at h.says) (λ x q. column-page-rows d n s i p room x q)
  where
    by-outcome : (o : Outcome Page) → found (record { given = g; rows = m }) ≡ page_told o →
        ((x : Page) → o ≡ found x → x.rows ≡ n) → m ≡ n
    by-outcome (refused k) q w = clash (cc)
    by-outcome (found x) q w = let many : m ≡ x.rows = ap (λ (c : PageCounts). c.rows) (same-found q) in many ∙ w x refl
