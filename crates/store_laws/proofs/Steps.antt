-- Each call that keeps its contract is a step of a run, so what holds of runs holds of the calls.
-- Assumes nothing.
use mathlib.Core.Path.{◌≡◌, refl, ap}
use mathlib.Core.List.{List, ◌∷◌}
use Prim.Native.Nat.{ℕ}
use native.Mathlib.Omega.{arith}
use lib.ListN.{length, drop}
use lib.Seq.{take-append_seam}
use Rattle.common.specs.Outcome.{Outcome, refused, found}
use Rattle.bitmap_spec.specs.Output.{after, length_of, Gives}
use Rattle.std.specs.Prelude.{Result, Ok, Err}
use Rattle.common.specs.declared.Refusal.{Refusal}
use Rattle.common.specs.Refusal.{number, outcome}
use Rattle.store_spec.specs.Store.{told}
use Rattle.store_spec.specs.Owners.{put_on, fetch_on, drop_on, OwnChanges, OwnDrops}
use Rattle.store_spec.specs.Saved.{save_on}
use Rattle.store_spec.specs.Runs.{puts, fetches, drops, answer, Leaves, fetched, Step, Turn, save, Run, saved}

-- what a call gave stands at the start of its output
given : (x : Outcome (List ℕ)) (before rest : List ℕ) (r : Result ℕ Refusal) → Gives x before rest r → fetched r rest ≡ x
unfolding after length_of
given x before rest r g = go x r g.says g.holds
  where
    go : (x : Outcome (List ℕ)) (r : Result ℕ Refusal) → outcome r ≡ length_of x → rest ≡ after x before → fetched r rest ≡ x
    go (refused n) (Err m) e h = let z : number m ≡ n = cc in rw z
    go (refused n) (Ok m) e h = absurd (let z : ◌≡◌ {A = ℕ} 0 1 = cc in omega arith)
    go (found w) (Err m) e h = absurd (let z : ◌≡◌ {A = ℕ} 0 1 = cc in omega arith)
    go (found w) (Ok m) e h =
        let z : m ≡ length w = cc in rw (z, h) (ap found (take-append_seam w (drop (length w) before)))

-- a save that keeps its contract is a turn of a run
pub save-turn : (dir buf out out' : List ℕ) (r : Result ℕ Refusal) → Gives (save_on (length out) dir buf) out out' r
    → {dir' buf' : List ℕ} {ts : List Turn} → Run dir buf ts dir' buf'
    → Run dir buf (save (length out) (fetched r out') ∷ ts) dir' buf'
save-turn dir buf out out' r g t = saved (given (save_on (length out) dir buf) out out' r g) t

module _ (o k : ℕ) (dir buf : List ℕ) where
  pub put_step : (bitmap dir' buf' : List ℕ) (r : Result (Unit {0}) Refusal) → OwnChanges o (put_on o k bitmap dir buf) dir buf dir' buf' r
      → Step o (puts k bitmap) dir buf dir' buf' (told r)
  unfolding answer Leaves
  put_step bitmap dir' buf' r g =
      record { says = g.says; left = g.left }

  pub fetch-step : (out out' : List ℕ) (r : Result ℕ Refusal) → Gives (fetch_on o k (length out) dir buf) out out' r
      → Step o (fetches k (length out)) dir buf dir buf (fetched r out')
  unfolding answer Leaves
  fetch-step out out' r g =
      record { says = given (fetch_on o k (length out) dir buf) out out' r g; left = (refl, refl) }

  pub drop-step : (dir' : List ℕ) (r : Result (Unit {0}) Refusal) → OwnDrops o (drop_on o k dir buf) k dir buf dir' r
      → Step o (drops k) dir buf dir' buf (told r)
  unfolding answer Leaves
  drop-step dir' r g = record { says = g.says; left = g.left }
