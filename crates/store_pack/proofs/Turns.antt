-- One turn of the loop that moves forms together.
-- Assumes nothing.
use mathlib.Core.Path.{◌≡◌}
use mathlib.Core.List.{List}
use Prim.Native.Nat.{ℕ, ◌+◌, ◌*◌, ◌≤◌, ◌<◌}
use native.Mathlib.Omega.{arith}
use lib.ListN.{length, set, take, drop}
use Rattle.bitmap_spec.specs.Output.{written}
use Rattle.store_spec.specs.Store.{start_at, length_at}
use Rattle.store_laws.proofs.Packing.{Packing, Best, best-next, pack-step, moved_inside}

-- ---- one turn of packing
pub pack-turn : (n : ℕ) (dir₀ buf₀ dir buf : List ℕ) (to k at m : ℕ) → Packing n dir₀ buf₀ dir buf to
    → Best n dir to n k → k < n → length dir ≡ 2 * n → at ≡ start_at dir k → m ≡ length_at dir k
    → (dir' buf' : List ℕ) → dir' ≡ set dir (2 * k) to → buf' ≡ written buf to (take m (drop at buf))
    → Packing n dir₀ buf₀ dir' buf' (to + m)
pack-turn n dir₀ buf₀ dir buf to k at m g b h len ea em dir' buf' ed eb =
    rw (ed, eb, ea, em) (pack-step n dir₀ buf₀ dir buf to k g h (best-next n dir to k b h) len)

pub pack-fits : (n : ℕ) (dir₀ buf₀ dir buf : List ℕ) (to k at m : ℕ) → Packing n dir₀ buf₀ dir buf to
    → Best n dir to n k → k < n → length dir ≡ 2 * n → at ≡ start_at dir k → m ≡ length_at dir k
    → (to ≤ at) × (at + m ≤ length buf) × (0 < m)
pack-fits n dir₀ buf₀ dir buf to k at m g b h len ea em =
    let x = best-next n dir to k b h in
    (omega (arith, x.comes), omega (arith, moved_inside n dir₀ buf₀ dir buf to k g h x len), omega (arith, x.some))
