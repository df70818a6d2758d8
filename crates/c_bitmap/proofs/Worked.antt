-- A call's status of 0 says that it did its work: no definition refuses with 0, so where the status is 0 something was found.
-- Assumes nothing.
use mathlib.Core.Path.{◌≡◌}
use mathlib.Core.Bool.{Bool}
use mathlib.Core.List.{List}
use Prim.Native.Nat.{ℕ}
use Rattle.common.specs.Outcome.{found, status}
use Rattle.common.proofs.Outcomes.{zero-found}
use Rattle.bitmap_spec.specs.Ask as ask
use Rattle.bitmap_spec.specs.Output.{write, called}
use Rattle.bitmap_spec.specs.declared.Listing.{Listing}
use Rattle.bitmap_spec.specs.declared.Operation.{Operation}
use Rattle.bitmap_laws.proofs.Status.{check-numbered, probe-numbered, rank-numbered, page-numbered, write-numbered, called-numbered}

pub check-worked : (s : List ℕ) → status (ask.check s) ≡ 0 → (n : ℕ) × (ask.check s ≡ found n)
check-worked s e = zero-found _ (check-numbered s) e

pub probe-worked : (s : List ℕ) (x : ℕ) → status (ask.probe s x) ≡ 0 → (b : Bool) × (ask.probe s x ≡ found b)
probe-worked s x e = zero-found _ (probe-numbered s x) e

pub rank-worked : (s : List ℕ) (x : ℕ) → status (ask.rank s x) ≡ 0 → (n : ℕ) × (ask.rank s x ≡ found n)
rank-worked s x e = zero-found _ (rank-numbered s x) e

pub page-worked : (s : List ℕ) (at : Listing) (room : ℕ) → status (ask.page s at room) ≡ 0
    → (p : ask.Page) × (ask.page s at room ≡ found p)
page-worked s at room e = zero-found _ (page-numbered s at room) e

pub write-worked : (l : List ℕ) (room : ℕ) → status (write l room) ≡ 0 → (w : List ℕ) × (write l room ≡ found w)
write-worked l room e = zero-found _ (write-numbered l room) e

pub called-worked : (o : Operation) (a b : List ℕ) (room : ℕ) → status (called o a b room) ≡ 0
    → (w : List ℕ) × (called o a b room ≡ found w)
called-worked o a b room e = zero-found _ (called-numbered o a b room) e
