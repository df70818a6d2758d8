-- What the finder of a chunk's fault promises, and what it asks on the way.
use Rattle.std.specs.Prelude.{ℕ, ◌+◌, ◌≤◌, ◌<◌, ◌≡◌, Bool, true, false, List, get_or}
use Rattle.bitmap_spec.specs.Judge.{Chunk}
use Rattle.bitmap_spec.specs.declared.ChunkHead.{ChunkHead}
use Rattle.bitmap_explain_spec.specs.Explain.{Fault}
use Rattle.bitmap_explain_spec.specs.Explain.{Told, faulty}

-- a fault that is told is this one
abbrev pub Tells : Told Chunk → Fault → Type 0
Tells t r = (f : Fault) → t ≡ faulty f → r ≡ f

-- the descriptor that exception t belongs to
abbrev pub offset_of : List ℕ → ChunkHead → ℕ → ℕ
offset_of s h t = get_or s (h.offsets + t) 0

-- the exceptions' offsets rise, and exception j is the first that does not lie before descriptor i, if there is one
pub record Reached (s : List ℕ) (h : ChunkHead) (i j : ℕ) : Type 0 where
  pub order : (t u : ℕ) → t < u → u < h.e → offset_of s h t < offset_of s h u
  pub within : j ≤ h.e
  pub before : (t : ℕ) → t < j → offset_of s h t < i
  pub after : j < h.e → i ≤ offset_of s h j

-- whether there is an exception j, and it is descriptor i's
pub record Owns (s : List ℕ) (h : ChunkHead) (i j : ℕ) (r : Bool) : Type 0 where
  pub yes : r ≡ true → (j < h.e) × (offset_of s h j ≡ i)
  pub no : r ≡ false → j < h.e → offset_of s h j ≡ i → ⊥
