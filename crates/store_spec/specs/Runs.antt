-- Runs of both owners' calls on one store: "two runs from one shelf, handed on unchanged, that agree in one crew's
-- calls".
-- A run is any in which each call keeps its contract, so where forms lie may differ from run to run.
use Rattle.std.specs.Prelude.{ℕ, ◌≡◌, List, [], ◌∷◌, take, eqb, Result, Ok, Err}
use Rattle.common.specs.Outcome.{pick, Outcome, refused, found}
use Rattle.store_spec.specs.Store.{done_of}
use Rattle.store_spec.specs.Owners.{put_on, fetch_on, drop_on, OwnLeft}
use Rattle.store_spec.specs.Saved.{save_on}
use Rattle.common.specs.declared.Refusal.{Refusal}
use Rattle.common.specs.Refusal.{number}

-- an owner's call: put a bitmap into a slot, fetch a slot into an output of so many bytes, empty a slot
pub data Call : Type 0 where
  puts : ℕ → List ℕ → Call
  fetches : ℕ → ℕ → Call
  drops : ℕ → Call

-- the answer to owner o's call: the refusal, or the bytes given, which are those that a fetch lays into its output
unfoldable pub answer : ℕ → Call → List ℕ → List ℕ → Outcome (List ℕ)
answer o (puts k bitmap) dir buf = done_of (put_on o k bitmap dir buf)
answer o (fetches k out) dir buf = fetch_on o k out dir buf
answer o (drops k) dir buf = done_of (drop_on o k dir buf)

-- what the call leaves: a fetch leaves the store as it found it
unfoldable pub Leaves : ℕ → Call → List ℕ → List ℕ → List ℕ → List ℕ → Type 0
Leaves o (puts k bitmap) dir buf dir' buf' = OwnLeft o (put_on o k bitmap dir buf) dir buf dir' buf'
Leaves o (fetches k out) dir buf dir' buf' = (dir' ≡ dir) × (buf' ≡ buf)
Leaves o (drops k) dir buf dir' buf' = OwnLeft o (drop_on o k dir buf) dir buf dir' buf'

-- the answer that fetch and save give with the output that they leave: the refusal, or its first bytes
abbrev pub fetched : Result ℕ Refusal → List ℕ → Outcome (List ℕ)
fetched (Err r) out = refused (number r)
fetched (Ok n) out = found (take n out)

-- owner o's call, answered a, turns dir and buf into dir' and buf'
pub record Step (o : ℕ) (c : Call) (dir buf dir' buf' : List ℕ) (a : Outcome (List ℕ)) : Type 0 where
  pub says : a ≡ answer o c dir buf
  pub left : Leaves o c dir buf dir' buf'

-- what happens in a run: a call of an owner with its answer, or a save, which is nobody's, with its output's length and
-- its answer; "with no load between"
pub data Turn : Type 0 where
  call : ℕ → Call → Outcome (List ℕ) → Turn
  save : ℕ → Outcome (List ℕ) → Turn

-- the turns ts lead from dir and buf to dir' and buf'
pub data Run : List ℕ → List ℕ → List Turn → List ℕ → List ℕ → Type 0 where
  over : {dir buf : List ℕ} → Run dir buf [] dir buf
  called : {dir buf dir₁ buf₁ dir' buf' : List ℕ} {o : ℕ} {c : Call} {a : Outcome (List ℕ)} {ts : List Turn}
      → Step o c dir buf dir₁ buf₁ a → Run dir₁ buf₁ ts dir' buf' → Run dir buf (call o c a ∷ ts) dir' buf'
  saved : {dir buf dir' buf' : List ℕ} {out : ℕ} {a : Outcome (List ℕ)} {ts : List Turn}
      → a ≡ save_on out dir buf → Run dir buf ts dir' buf' → Run dir buf (save out a ∷ ts) dir' buf'

-- one owner's calls in a run, in their order, and the answers to them
unfoldable pub calls_of : ℕ → List Turn → List Call
calls_of o [] = []
calls_of o (call p c a ∷ ts) = pick (eqb p o) (c ∷ calls_of o ts) (calls_of o ts)
calls_of o (save out a ∷ ts) = calls_of o ts

unfoldable pub answers_of : ℕ → List Turn → List (Outcome (List ℕ))
answers_of o [] = []
answers_of o (call p c a ∷ ts) = pick (eqb p o) (a ∷ answers_of o ts) (answers_of o ts)
answers_of o (save out a ∷ ts) = answers_of o ts
