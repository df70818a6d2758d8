-- A call's status of 0 says that it did its work: no definition refuses with 0, so where the status is 0 a page was
-- found.
-- Assumes nothing.
use mathlib.Core.Path.{◌≡◌}
use mathlib.Core.List.{List}
use Prim.Native.Nat.{ℕ}
use Rattle.common.specs.Outcome.{found, status}
use Rattle.common.proofs.Outcomes.{zero-found}
use Rattle.row_spec.specs.Page.{Page, block_page}
use Rattle.row_laws.proofs.Status.{block-page-numbered}
use Rattle.bucket_spec.specs.Page.{bucket_page}
use Rattle.bucket_laws.proofs.Status.{bucket-page-numbered}

pub block-page-worked : (d s : List ℕ) (p room : ℕ) → status (block_page d s p room) ≡ 0
    → (x : Page) × (block_page d s p room ≡ found x)
block-page-worked d s p room e = zero-found _ (block-page-numbered d s p room) e

pub bucket-page-worked : (d : List ℕ) (n : ℕ) (s : List ℕ) (i p room : ℕ) → status (bucket_page d n s i p room) ≡ 0
    → (x : Page) × (bucket_page d n s i p room ≡ found x)
bucket-page-worked d n s i p room e = zero-found _ (bucket-page-numbered d n s i p room) e
