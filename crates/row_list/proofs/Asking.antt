-- From what was read, judged and listed to the outcome of a page.
-- Assumes nothing.
use Rattle.std.specs.Prelude.{Ok, Err}
use mathlib.Core.Path.{◌≡◌, sym, ap₂}
use mathlib.Core.List.{List}
use Prim.Native.Nat.{ℕ, ◌+◌, ◌*◌, ◌≤◌}
use lib.ListN.{length}
use Rattle.common.specs.Outcome.{Outcome, refused, found}
use Rattle.common.specs.Refusal.{number}
use Rattle.common.specs.declared.Refusal.{Refusal}
use Rattle.row_spec.specs.Schema.{schema, held, columns_of}
use Rattle.row_spec.specs.Block.{block}
use Rattle.row_spec.specs.Page.{Page, page_of, block_page, Paged}
use Rattle.row_spec.specs.declared.Schema.{Schema}
use Rattle.row_laws.proofs.Read.{read-refused, read_found}
use Rattle.row_laws.proofs.Pages.{block-page}
use Rattle.row_judge.specs.declared.BlockRead.{BlockRead}
use Rattle.row_judge.specs.Told.{block_told}
use Rattle.row_judge.proofs.Telling.{block_refused, block-found}
use Rattle.row_list.specs.Rows.{BlockListed}
use Rattle.row_list.proofs.Rows.{rows_fit}

module _ (d s : List ℕ) (p : ℕ) (list : List ℕ) where
  abbrev asked : Outcome Page
  asked = block_page d s p (length list)

  -- a refusal leaves the list
  was-refused : (r : Refusal) → asked ≡ refused (number r) → Paged asked (Err r) list list
  was-refused r q = record { says = rw q; holds = rw q }

  pub page-unread : (r : Refusal) → refused (number r) ≡ held (schema d) → Paged asked (Err r) list list
  unfolding block_page
  page-unread r h = was-refused r (rw (read-refused d (number r) h))

  module _ (x : Schema) (e : found x ≡ held (schema d)) where
    pub page-refused : (r : Refusal) → refused (number r) ≡ block_told 0 0 (block (columns_of x) s)
        → Paged asked (Err r) list list
    unfolding block_page
    page-refused r h =
        was-refused r (rw ((read_found d x e).is, block_refused 0 0 (block (columns_of x) s) (number r) h))

    module _ (b : BlockRead) (h : found b ≡ block_told 0 0 (block (columns_of x) s)) where
      -- as many rows as a block may have, and their offsets are there
      pub rows-there : (b.rows ≤ 65536) × (4 * b.rows + 4 ≤ length s)
      rows-there =
          let y = block-found 0 0 (block (columns_of x) s) b h in
          rw y.1.1.0 (rows_fit s (columns_of x) y.0 y.1.0)

      pub page-found : (given : ℕ) (after : List ℕ)
          → BlockListed s (columns_of x) b.rows p (length list) given list after
          → Paged asked (Ok (record { given = given; rows = b.rows })) list after
      unfolding page_of
      page-found given after listed =
          let y = block-found 0 0 (block (columns_of x) s) b h in
          let so = listed.says y.0 y.1.0 (sym y.1.1.0) in
          let is = block-page d s (columns_of x) y.0 (read_found d x e).is y.1.0 p (length list) in
          let counts = ap₂ (λ (g n : ℕ). found (record { given = g; rows = n })) so.0 y.1.1.0 in
          record { says = rw is counts; holds = rw is so.1 }
