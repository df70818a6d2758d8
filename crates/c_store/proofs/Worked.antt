-- A call's status of 0 says that it did its work: no definition refuses with 0, so where the status is 0 something was found.
-- Assumes nothing.
use mathlib.Core.Path.{◌≡◌}
use mathlib.Core.List.{List}
use Prim.Native.Nat.{ℕ}
use Rattle.common.specs.Outcome.{found, status}
use Rattle.common.proofs.Outcomes.{zero-found}
use Rattle.store_spec.specs.Owners.{put_on, fetch_on, drop_on}
use Rattle.store_spec.specs.Saved.{save_on, load_on}
use Rattle.store_laws.proofs.Status.{put-numbered, fetch-numbered, drop-numbered, save-numbered, load-numbered}

pub put-worked : (o k : ℕ) (bitmap dir buf : List ℕ) → status (put_on o k bitmap dir buf) ≡ 0
    → (es : List (List ℕ)) × (put_on o k bitmap dir buf ≡ found es)
put-worked o k bitmap dir buf e = zero-found _ (put-numbered o k bitmap dir buf) e

pub fetch-worked : (o k out : ℕ) (dir buf : List ℕ) → status (fetch_on o k out dir buf) ≡ 0
    → (w : List ℕ) × (fetch_on o k out dir buf ≡ found w)
fetch-worked o k out dir buf e = zero-found _ (fetch-numbered o k out dir buf) e

pub drop-worked : (o k : ℕ) (dir buf : List ℕ) → status (drop_on o k dir buf) ≡ 0
    → (es : List (List ℕ)) × (drop_on o k dir buf ≡ found es)
drop-worked o k dir buf e = zero-found _ (drop-numbered o k dir buf) e

pub save-worked : (out : ℕ) (dir buf : List ℕ) → status (save_on out dir buf) ≡ 0
    → (w : List ℕ) × (save_on out dir buf ≡ found w)
save-worked out dir buf e = zero-found _ (save-numbered out dir buf) e

pub load-worked : (dir : List ℕ) (room : ℕ) (s : List ℕ) → status (load_on dir room s) ≡ 0
    → (es : List (List ℕ)) × (load_on dir room s ≡ found es)
load-worked dir room s e = zero-found _ (load-numbered dir room s) e
