-- Descriptors of which each is at most 63.
-- Assumes nothing.
use mathlib.Core.List.{List, [], ◌∷◌}
use Prim.Native.Nat.{ℕ, suc, ◌≤◌, ◌<◌}
use native.Mathlib.Omega.{arith}
use lib.ListN.{length, get_or}
use Rattle.bitmap_laws.proofs.Values.{AllLe}

pub all-le : (ds : List ℕ) → ((i : ℕ) → i < length ds → get_or ds i 0 ≤ 63) → AllLe 63 ds
unfolding AllLe
all-le [] h = tt
all-le (d ∷ ds) h = (h 0 (omega arith), all-le ds (λ i l. h (suc i) (omega arith)))
